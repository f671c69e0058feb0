-- The rows of several new lines, line by line.
use Rattle.std.proofs.Common.{◌≡◌, ◌∙◌, ℕ, ◌+◌, ◌-◌, ◌<◌, ◌≤◌, ◌∷◌, ◌++◌, List, [], append_assoc}
use Rattle.std.proofs.Common.{ap, arith, drop, false, get_or, length, map, refl, sym, take, true}
use Rattle.std.specs.List.{list_any, slice_range}
use Rattle.std.proofs.lemmas.Grind.{common_steps}
use Rattle.std.proofs.lemmas.List.{drop_more, get_or-drop, length-drop, map-append, take_more}
use Rattle.drawn_edits.specs.EditedLines.{is_added}
use Rattle.drawn_edits.specs.Helps.{changed_row, changed_rows, kept_lines, lone_addition, lone_sign}
use Rattle.drawn_lines.specs.Frames.{Frame}
use Rattle.drawn_lines.specs.Painting.{Piece}

step-kept : (f : Frame) (n : ℕ) (before ls : List (List Piece)) (l : List Piece)
    → list_any is_added l ≡ false
    → changed_rows f n before (l ∷ ls) ≡ changed_rows f n (before ++ l ∷ []) ls
step-kept f n before ls l e = rw e refl

step-changed : (f : Frame) (n : ℕ) (before ls : List (List Piece)) (l : List Piece)
    → list_any is_added l ≡ true
    → changed_rows f n before (l ∷ ls) ≡ kept_lines f n before
    ++ (changed_row f (n + length before) l (lone_sign l (lone_addition l))
    ++ changed_rows f (n + length before + 1) [] ls)
step-changed f n before ls l e = rw e refl

module _ {X : Type 0} where
  range-more : (xs : List X) (from i : ℕ) (x : X) → from ≤ i → i < length xs → x ≡ get_or xs i x
      → slice_range xs from (i + 1) ≡ slice_range xs from i ++ x ∷ []
  range-more xs from i x h l e =
      let k : (i + 1) - from ≡ (i - from) + 1 = omega (arith, h) in
      let long = length-drop from xs in
      let short : i - from < length (drop from xs) = omega arith in
      let same : from + (i - from) ≡ i = omega (arith, h) in
      let here : get_or (drop from xs) (i - from) x ≡ x = get_or-drop from xs (i - from) x
      ∙ ap (λ n. get_or xs n x) same ∙ sym e in
      ap (λ n. take n (drop from xs)) k ∙ take_more (drop from xs) (i - from) x short
      ∙ ap (λ y. take (i - from) (drop from xs) ++ y ∷ []) here

  back : (xs : List X) (i : ℕ) (x : X) → i < length xs → x ≡ get_or xs i x
      → drop i xs ≡ x ∷ drop (i + 1) xs
  back xs i x l e = drop_more xs i x l ∙ ap (λ y. y ∷ drop (i + 1) xs) (sym e)

  -- a line that no edit changes
  pub changed-kept : (f : Frame) (g : X → List Piece) (xs : List X) (n from i : ℕ) (x : X)
      → from ≤ i → i < length xs → x ≡ get_or xs i x → list_any is_added (g x) ≡ false
      → changed_rows f n (map g (slice_range xs from (i + 1))) (map g (drop (i + 1) xs))
      ≡ changed_rows f n (map g (slice_range xs from i)) (map g (drop i xs))
  changed-kept f g xs n from i x h l e test =
      let before = map g (slice_range xs from i) in
      ap (λ b. changed_rows f n b (map g (drop (i + 1) xs)))
      (ap (map g) (range-more xs from i x h l e)
      ∙ map-append g (slice_range xs from i) (x ∷ []))
      ∙ sym (step-kept f n before (map g (drop (i + 1) xs)) (g x) test)
      ∙ ap (λ ys. changed_rows f n before (map g ys)) (sym (back xs i x l e))

  -- a changed line
  pub changed-new : (f : Frame) (g : X → List Piece) (xs : List X) (n from i : ℕ) (x : X)
      (o : List ℕ)
      → from ≤ i → i < length xs → x ≡ get_or xs i x → list_any is_added (g x) ≡ true
      → ((o ++ kept_lines f (n + from) (map g (slice_range xs from i)))
      ++ changed_row f (n + i) (g x) (lone_sign (g x) (lone_addition (g x))))
      ++ changed_rows f (n + (i + 1)) (map g (slice_range xs (i + 1) (i + 1)))
      (map g (drop (i + 1) xs))
      ≡ o ++ changed_rows f (n + from) (map g (slice_range xs from i)) (map g (drop i xs))
  changed-new f g xs n from i x o h l e test =
      let before = map g (slice_range xs from i) in
      let rest = map g (drop (i + 1) xs) in
      let sign = lone_sign (g x) (lone_addition (g x)) in
      let kept = kept_lines f (n + from) before in
      let count : n + from + length before ≡ n + i = grind (arith, common_steps) in
      let next : n + from + length before + 1 ≡ n + (i + 1) = omega (arith, count) in
      let zero_left : (i + 1) - (i + 1) ≡ 0 = omega arith in
      let tail = changed_rows f (n + (i + 1)) [] rest in
      let row = changed_row f (n + i) (g x) sign in
      ap (λ k. ((o ++ kept) ++ row) ++ changed_rows f (n + (i + 1))
      (map g (take k (drop (i + 1) xs))) rest) zero_left
      ∙ append_assoc (o ++ kept) row tail ∙ append_assoc o kept (row ++ tail)
      ∙ ap (λ k. o ++ (kept ++ (changed_row f k (g x) sign ++ tail))) (sym count)
      ∙ ap (λ k. o ++ (kept ++ (changed_row f (n + from + length before) (g x) sign
      ++ changed_rows f k [] rest))) (sym next)
      ∙ ap (λ t. o ++ t) (sym (step-changed f (n + from) before rest (g x) test))
      ∙ ap (λ ys. o ++ changed_rows f (n + from) before (map g ys)) (sym (back xs i x l e))
