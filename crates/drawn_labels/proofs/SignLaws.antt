-- The rows under a line have the signs of labels under the columns of these, and nowhere else.
use Rattle.std.proofs.Common.{◌≡◌, ◌⊎◌, inl, inr, ℕ, ◌+◌, ◌-◌, ◌<◌, ◌≤◌, zero, suc, Bool, true}
use Rattle.std.proofs.Common.{false}
use Rattle.std.proofs.Common.{List, [], ◌∷◌, ◌++◌, ◌∙◌, ap, arith, cond, length}
use Rattle.std.proofs.Common.{nat_lt, refl, replicate, sym, append-nil}
use Rattle.std.specs.Prelude.{◌==◌, ◌&&◌, flat_map}
use Rattle.std.specs.List.{AllByRecursion}
use Rattle.std.proofs.lemmas.Bool.Decides.{nat_tests}
use Rattle.std.proofs.lemmas.Bool.{cond_both}
use Rattle.std.proofs.lemmas.Grind.{flat_map-append}
use Rattle.drawn_lines.specs.Lines.{row_under}
use Rattle.drawn_lines.specs.declared.paint.Gutter.{Gutter}
use Rattle.drawn_labels.specs.Marks.{HungLabel, bars, cells, depth, depth_after, depth_of}
use Rattle.drawn_labels.specs.Marks.{hung_labels}
use Rattle.drawn_labels.specs.Marks.{has_text}
use Rattle.drawn_labels.specs.Marks.{hung_row, hung_rows, hung_texts, mark_rows, put_cell_at}
use Rattle.drawn_labels.specs.Marks.{put_cells_from}
use Rattle.drawn_labels.specs.Marks.{rows_below, rows_of, side_texts, sign_row, signs_of}
use Rattle.drawn_labels.specs.Marks.{sorted_marks}
use Rattle.drawn_labels.specs.Marks.{with_bar, with_hung_text, with_mark, with_side_text}
use Rattle.drawn_labels.specs.Marks.{with_signs}
use Rattle.drawn_labels.specs.Rows.{Mark, cell, has_column, is_covered, space, style_of, text_style}
use Rattle.drawn_labels.specs.Rows.{written_cells}
use Rattle.drawn_labels.specs.Signs.{AddsRows, IsAmong, IsFree, IsInBars, IsInSigns, IsSign}
use Rattle.drawn_labels.specs.Signs.{IsText, cell_in, column_right_of}
use Rattle.drawn_labels.specs.declared.cells.Cell.{Cell}

-- A cell that is put into a row is in its column,
put-here : (n : ℕ) (c : Cell) (row : List Cell) → cell_in n (put_cell_at n c row) ≡ c
put-here zero c [] = refl
put-here zero c (d ∷ row) = refl
put-here (suc n) c [] = put-here n c []
put-here (suc n) c (d ∷ row) = put-here n c row

-- and in the other columns is what was there.
put-there : (n k : ℕ) (c : Cell) (row : List Cell) → (n < k) ⊎ (k < n)
    → cell_in n (put_cell_at k c row) ≡ cell_in n row
put-there zero zero c row (inl l) = absurd (omega (arith, l))
put-there zero zero c row (inr l) = absurd (omega (arith, l))
put-there zero (suc k) c [] h = refl
put-there zero (suc k) c (d ∷ row) h = refl
put-there (suc n) zero c [] h = refl
put-there (suc n) zero c (d ∷ row) h = refl
put-there (suc n) (suc k) c [] (inl l) = put-there n k c [] (inl (omega (arith, l)))
put-there (suc n) (suc k) c [] (inr l) = put-there n k c [] (inr (omega (arith, l)))
put-there (suc n) (suc k) c (d ∷ row) (inl l) = put-there n k c row (inl (omega (arith, l)))
put-there (suc n) (suc k) c (d ∷ row) (inr l) = put-there n k c row (inr (omega (arith, l)))

-- The order of two numbers.
data Order (m n : ℕ) : Type 0 where
  Below : m < n → Order m n
  Same : m ≡ n → Order m n
  Above : n < m → Order m n

order : (m n : ℕ) → Order m n
order m n = by_less (nat_lt m n) refl (nat_lt n m) refl
  where
    by_less : (a : Bool) → nat_lt m n ≡ a → (b : Bool) → nat_lt n m ≡ b → Order m n
    by_less true e b f = Below (grind (arith, nat_tests))
    by_less false e true f = Above (grind (arith, nat_tests))
    by_less false e false f = Same (grind (arith, nat_tests))

-- What is in the column n of a row, into which cells were put from the column k on: one of them,
-- or what was there.
data Found (n k : ℕ) (cs row : List Cell) (c : Cell) : Type 0 where
  Put : (j : ℕ) → n ≡ k + j → j < length cs → c ≡ cell_in j cs → Found n k cs row c
  Left : (n < k) ⊎ (k + length cs ≤ n) → c ≡ cell_in n row → Found n k cs row c

find : (n k : ℕ) (cs row : List Cell) → Found n k cs row (cell_in n (put_cells_from k cs row))
find n k [] row = by_order (order n k)
  where
    by_order : Order n k → Found n k [] row (cell_in n row)
    by_order (Below l) = Left (inl l) refl
    by_order (Same e) = Left (inr (omega (arith, e))) refl
    by_order (Above l) = Left (inr (omega (arith, l))) refl
find n k (c ∷ cs) row = by_found (find n (suc k) cs (put_cell_at k c row)) (order n k)
  where
    by_found : {d : Cell} → Found n (suc k) cs (put_cell_at k c row) d → Order n k
        → Found n k (c ∷ cs) row d
    by_found (Put j e l f) o = Put (suc j) (omega (arith, e)) (omega (arith, l)) f
    by_found (Left h f) (Below l) = Left (inl l) (f ∙ put-there n k c row (inl l))
    by_found (Left h f) (Same e) =
        Put 0 (omega (arith, e)) (omega arith) (f ∙ ap (λ i. cell_in i (put_cell_at k c row)) e
        ∙ put-here k c row)
    by_found (Left (inl h) f) (Above l) = absurd (omega (arith, h, l))
    by_found (Left (inr h) f) (Above l) =
        Left (inr (omega (arith, h))) (f ∙ put-there n k c row (inr l))

-- Labels that are put in order are the same labels.
put-among : (before : Mark → Mark → Bool) (m x : Mark) (ms : List Mark)
    → IsAmong x (with_mark before m ms) → (x ≡ m) ⊎ IsAmong x ms
put-among before m x [] h = h
put-among before m x (n ∷ ms) h = by_test (before m n) h (put-among before m x ms)
  where
    by_test : (b : Bool) → IsAmong x (cond b (m ∷ n ∷ ms) (n ∷ with_mark before m ms))
        → (IsAmong x (with_mark before m ms) → (x ≡ m) ⊎ IsAmong x ms)
        → (x ≡ m) ⊎ IsAmong x (n ∷ ms)
    by_test true k on = k
    by_test false (inl e) on = inr (inl e)
    by_test false (inr k) on = elim (on k) [ inl e ↦ inl e | inr i ↦ inr (inr i) ]

among-put : (before : Mark → Mark → Bool) (m x : Mark) (ms : List Mark)
    → (x ≡ m) ⊎ IsAmong x ms → IsAmong x (with_mark before m ms)
among-put before m x [] h = h
among-put before m x (n ∷ ms) h = by_test (before m n) h (among-put before m x ms)
  where
    by_test : (b : Bool) → (x ≡ m) ⊎ IsAmong x (n ∷ ms)
        → ((x ≡ m) ⊎ IsAmong x ms → IsAmong x (with_mark before m ms))
        → IsAmong x (cond b (m ∷ n ∷ ms) (n ∷ with_mark before m ms))
    by_test true k on = k
    by_test false (inl e) on = inr (on (inl e))
    by_test false (inr (inl e)) on = inl e
    by_test false (inr (inr k)) on = inr (on (inr k))

pub sorted-among : (before : Mark → Mark → Bool) (done ms : List Mark) (x : Mark)
    → IsAmong x (sorted_marks before done ms) → IsAmong x done ⊎ IsAmong x ms
sorted-among before done [] x h = inl h
sorted-among before done (m ∷ ms) x h =
    elim (sorted-among before (with_mark before m done) ms x h) [
      | inl k ↦ elim (put-among before m x done k) [ inl e ↦ inr (inl e) | inr i ↦ inl i ]
      | inr k ↦ inr (inr k)
    ]

pub among-sorted : (before : Mark → Mark → Bool) (done ms : List Mark) (x : Mark)
    → IsAmong x done ⊎ IsAmong x ms → IsAmong x (sorted_marks before done ms)
among-sorted before done [] x (inl h) = h
among-sorted before done [] x (inr h) = absurd h
among-sorted before done (m ∷ ms) x (inl h) =
    among-sorted before (with_mark before m done) ms x (inl (among-put before m x done (inr h)))
among-sorted before done (m ∷ ms) x (inr (inl h)) =
    among-sorted before (with_mark before m done) ms x (inl (among-put before m x done (inl h)))
among-sorted before done (m ∷ ms) x (inr (inr h)) =
    among-sorted before (with_mark before m done) ms x (inr h)

-- a row of cells of one kind
pub run-cell : (j n : ℕ) (c : Cell) → j < n → cell_in j (replicate n c) ≡ c
run-cell j zero c l = absurd (omega (arith, l))
run-cell zero (suc n) c l = refl
run-cell (suc j) (suc n) c l = run-cell j n c (omega (arith, l))

pub run-length : (n : ℕ) (c : Cell) → length (replicate n c) ≡ n
run-length zero c = refl
run-length (suc n) c = ap suc (run-length n c)

-- A row with the texts of labels `all`, and over these the signs of the labels `done`.
abbrev Signed : List Mark → List Mark → List Cell → Type 0
Signed all done row = (n : ℕ)
    → IsSign done n (cell_in n row)
    ⊎ (IsFree done n × ((cell_in n row ≡ space) ⊎ IsText column_right_of all n (cell_in n row)))

within-column : (m : Mark) (n j : ℕ) → n ≡ m.start + j → j < m.end - m.start → has_column m n ≡ true
within-column m n j e l = grind (arith, nat_tests)

beside-column : (m : Mark) (n : ℕ) → (n < m.start) ⊎ (m.start + (m.end - m.start) ≤ n)
    → has_column m n ≡ false
beside-column m n (inl l) = grind (arith, nat_tests)
beside-column m n (inr l) = grind (arith, nat_tests)

-- What stands in a column is known of an equal cell.
same-text : (start : Mark → ℕ) (ms : List Mark) (n : ℕ) (c d : Cell) → d ≡ c
    → (c ≡ space) ⊎ IsText start ms n c → (d ≡ space) ⊎ IsText start ms n d
same-text start ms n c d e (inl same) = inl (e ∙ same)
same-text start ms n c d e (inr (m, among, k, at, same)) = inr (m, among, k, at, e ∙ same)

-- One more label is in none of the columns that it does not have.
sign-kept : (all done : List Mark) (m : Mark) (n : ℕ) (c d : Cell) → d ≡ c
    → has_column m n ≡ false
    → IsSign done n c ⊎ (IsFree done n × ((c ≡ space) ⊎ IsText column_right_of all n c))
    → IsSign (m ∷ done) n d ⊎ (IsFree (m ∷ done) n × ((d ≡ space) ⊎ IsText column_right_of all n d))
sign-kept all done m n c d e off (inl (x, among, there, same)) =
    inl (x, inr among, there, e ∙ same)
sign-kept all done m n c d e off (inr (free, what)) =
    inr (
      λ x among. elim among [
        | inl f ↦ ap (λ y. has_column y n) f ∙ off
        | inr i ↦ free x i
      ],
      same-text column_right_of all n c d e what,
    )

sign-over : (all done : List Mark) (m : Mark) (row : List Cell) → Signed all done row
    → Signed all (m ∷ done) (put_cells_from m.start (signs_of m) row)
sign-over all done m row h n = by_found (find n m.start (signs_of m) row)
  where
    long : length (signs_of m) ≡ m.end - m.start
    long = run-length (m.end - m.start) (cell (style_of m) m.sign)

    by_found : {c : Cell} → Found n m.start (signs_of m) row c
        → IsSign (m ∷ done) n c
        ⊎ (IsFree (m ∷ done) n × ((c ≡ space) ⊎ IsText column_right_of all n c))
    by_found (Put j e l f) =
        let k : j < m.end - m.start = omega (arith, l, long) in
        inl (m, inl refl, within-column m n j e k, f ∙ run-cell j (m.end - m.start) _ k)
    by_found (Left (inl l) f) =
        sign-kept all done m n _ _ f (beside-column m n (inl l)) (h n)
    by_found (Left (inr l) f) =
        sign-kept all done m n _ _ f (beside-column m n (inr (omega (arith, l, long)))) (h n)

-- The labels that are put over a row, one after the other.
over : List Mark → List Mark → List Mark
over done [] = done
over done (m ∷ ms) = over (m ∷ done) ms

signs-over : (all done ms : List Mark) (row : List Cell) → Signed all done row
    → Signed all (over done ms) (with_signs ms row)
unfolding over
signs-over all done [] row h = h
signs-over all done (m ∷ ms) row h =
    signs-over all (m ∷ done) ms (put_cells_from m.start (signs_of m) row)
    (sign-over all done m row h)

over-among : (done ms : List Mark) (x : Mark) → IsAmong x (over done ms)
    → IsAmong x done ⊎ IsAmong x ms
unfolding over
over-among done [] x h = inl h
over-among done (m ∷ ms) x h = elim (over-among (m ∷ done) ms x h) [
  | inl k ↦ elim k [ inl e ↦ inr (inl e) | inr i ↦ inl i ]
  | inr k ↦ inr (inr k)
]

among-over : (done ms : List Mark) (x : Mark) → IsAmong x done ⊎ IsAmong x ms
    → IsAmong x (over done ms)
unfolding over
among-over done [] x (inl h) = h
among-over done [] x (inr h) = absurd h
among-over done (m ∷ ms) x (inl h) = among-over (m ∷ done) ms x (inl (inr h))
among-over done (m ∷ ms) x (inr (inl h)) = among-over (m ∷ done) ms x (inl (inl h))
among-over done (m ∷ ms) x (inr (inr h)) = among-over (m ∷ done) ms x (inr h)

-- HungLabel labels that are among these.
AreHung : List Mark → List HungLabel → Type 0
AreHung ms hs = AllByRecursion (λ h. IsAmong h.mark ms) hs

-- A row of texts.
abbrev Texts : (Mark → ℕ) → List Mark → List Cell → Type 0
Texts start ms row = (n : ℕ) → (cell_in n row ≡ space) ⊎ IsText start ms n (cell_in n row)

side-over : (ms : List Mark) (h : HungLabel) (row : List Cell) → IsAmong h.mark ms
    → Texts column_right_of ms row → Texts column_right_of ms (with_side_text h row)
side-over ms h row among t = cond_both (has_text h.mark && (h.down == 0))
    (put_cells_from h.mark.end (space ∷ cells (text_style h.mark) h.mark.text) row) row
    (Texts column_right_of ms)
    (λ yes n. by_found n (find n h.mark.end (space ∷ cells (text_style h.mark) h.mark.text) row))
    (λ no. t)
  where
    by_found : (n : ℕ) {c : Cell}
        → Found n h.mark.end (space ∷ cells (text_style h.mark) h.mark.text) row c
        → (c ≡ space) ⊎ IsText column_right_of ms n c
    by_found n (Put zero e l f) = inl f
    by_found n (Put (suc j) e l f) = inr (h.mark, among, j, omega (arith, e), f)
    by_found n (Left l f) = same-text column_right_of ms n _ _ f (t n)

sides-over : (ms : List Mark) (hs : List HungLabel) (row : List Cell) → AreHung ms hs
    → Texts column_right_of ms row → Texts column_right_of ms (side_texts hs row)
unfolding AreHung
sides-over ms [] row a t = t
sides-over ms (h ∷ hs) row a t =
    sides-over ms hs (with_side_text h row) a.1 (side-over ms h row a.0 t)

-- The row of signs.
signs-in : (ms : List Mark) (hs : List HungLabel) → AreHung ms hs
    → (n : ℕ) → IsInSigns ms n (cell_in n (sign_row ms hs))
unfolding sign_row
signs-in ms hs a n = by_kind (signs-over ms [] (sorted_marks is_covered [] ms) (side_texts hs [])
    (λ k. inr (λ m none. absurd none, sides-over ms hs [] a (λ i. inl refl) k)) n)
  where
    same : (x : Mark) → IsAmong x (over [] (sorted_marks is_covered [] ms)) → IsAmong x ms
    same x h = elim (over-among [] (sorted_marks is_covered [] ms) x h) [
      | inl k ↦ absurd k
      | inr k ↦ elim (sorted-among is_covered [] ms x k) [ inl i ↦ absurd i | inr i ↦ i ]
    ]

    by_kind : {c : Cell} → IsSign (over [] (sorted_marks is_covered [] ms)) n c
        ⊎ (IsFree (over [] (sorted_marks is_covered [] ms)) n
        × ((c ≡ space) ⊎ IsText column_right_of ms n c)) → IsInSigns ms n c
    by_kind (inl (m, among, there, e)) = inl (m, same m among, there, e)
    by_kind (inr (free, what)) =
        inr (
          λ x among. free x (among-over [] (sorted_marks is_covered [] ms) x
              (inr (among-sorted is_covered [] ms x (inr among)))),
          what,
        )

-- The rows below it.
abbrev Barred : List Mark → List Cell → Type 0
Barred ms row = (n : ℕ) → IsInBars ms n (cell_in n row)

same-bar : (ms : List Mark) (n : ℕ) (c d : Cell) → d ≡ c → IsInBars ms n c → IsInBars ms n d
same-bar ms n c d e (inl same) = inl (e ∙ same)
same-bar ms n c d e (inr (inl (m, among, at, same))) = inr (inl (m, among, at, e ∙ same))
same-bar ms n c d e (inr (inr (m, among, k, at, same))) = inr (inr (m, among, k, at, e ∙ same))

bar-over : (ms : List Mark) (k : ℕ) (h : HungLabel) (row : List Cell) → IsAmong h.mark ms
    → Barred ms row → Barred ms (with_bar k h row)
bar-over ms k h row among t = cond_both (has_text h.mark && nat_lt k h.down)
    (put_cell_at h.mark.start bar row) row (Barred ms)
    (λ yes n. by_order n (order n h.mark.start)) (λ no. t)
  where
    bar : Cell
    bar = cell (style_of h.mark) 124

    by_order : (n : ℕ) → Order n h.mark.start
        → IsInBars ms n (cell_in n (put_cell_at h.mark.start bar row))
    by_order n (Below l) =
        same-bar ms n (cell_in n row) (cell_in n (put_cell_at h.mark.start bar row))
        (put-there n h.mark.start bar row (inl l)) (t n)
    by_order n (Same e) =
        inr (inl (
          h.mark,
          among,
          e,
          ap (λ i. cell_in i (put_cell_at h.mark.start bar row)) e
              ∙ put-here h.mark.start bar row,
        ))
    by_order n (Above l) =
        same-bar ms n (cell_in n row) (cell_in n (put_cell_at h.mark.start bar row))
        (put-there n h.mark.start bar row (inr l)) (t n)

bars-over : (ms : List Mark) (k : ℕ) (hs : List HungLabel) (row : List Cell) → AreHung ms hs
    → Barred ms row → Barred ms (bars k hs row)
unfolding AreHung
bars-over ms k [] row a t = t
bars-over ms k (h ∷ hs) row a t =
    bars-over ms k hs (with_bar k h row) a.1 (bar-over ms k h row a.0 t)

hung-over : (ms : List Mark) (k : ℕ) (h : HungLabel) (row : List Cell) → IsAmong h.mark ms
    → Barred ms row → Barred ms (with_hung_text k h row)
hung-over ms k h row among t =
    cond_both (has_text h.mark && (nat_lt 0 h.down && (k == h.down)))
    (put_cells_from h.mark.start (cells (text_style h.mark) h.mark.text) row) row (Barred ms)
    (λ yes n. by_found n (find n h.mark.start (cells (text_style h.mark) h.mark.text) row))
    (λ no. t)
  where
    by_found : (n : ℕ) {c : Cell}
        → Found n h.mark.start (cells (text_style h.mark) h.mark.text) row c → IsInBars ms n c
    by_found n (Put j e l f) = inr (inr (h.mark, among, j, e, f))
    by_found n (Left l f) = same-bar ms n _ _ f (t n)

hungs-over : (ms : List Mark) (k : ℕ) (hs : List HungLabel) (row : List Cell) → AreHung ms hs
    → Barred ms row → Barred ms (hung_texts k hs row)
unfolding AreHung
hungs-over ms k [] row a t = t
hungs-over ms k (h ∷ hs) row a t =
    hungs-over ms k hs (with_hung_text k h row) a.1 (hung-over ms k h row a.0 t)

hung-in : (ms : List Mark) (k : ℕ) (hs : List HungLabel) → AreHung ms hs → Barred ms (hung_row k hs)
hung-in ms k hs a = hungs-over ms k hs (bars k hs []) a (bars-over ms k hs [] a (λ n. inl refl))

-- The labels that are hung are those of the line.
hang-among : (all ms : List Mark) (down : ℕ) → ((x : Mark) → IsAmong x ms → IsAmong x all)
    → AreHung all (hung_labels down ms)
unfolding AreHung
hang-among all [] down h = tt
hang-among all (m ∷ ms) down h = (
  h m (inl refl),
  hang-among all ms (depth_after (depth_of down m ms) m ms) (λ x k. h x (inr k)),
)

-- The rows as bytes.
abbrev row_bytes : Gutter → List Cell → List ℕ
row_bytes g row = row_under g (written_cells g.palette row)

first_rows : ℕ → List HungLabel → List (List Cell)
first_rows zero hs = []
first_rows (suc n) hs = first_rows n hs ++ hung_row n hs ∷ []

first-bytes : (g : Gutter) (n : ℕ) (hs : List HungLabel)
    → hung_rows g n hs ≡ flat_map (row_bytes g) (first_rows n hs)
unfolding first_rows
first-bytes g zero hs = refl
first-bytes g (suc n) hs =
    ap (λ t. t ++ row_bytes g (hung_row n hs)) (first-bytes g n hs)
    ∙ ap (λ t. flat_map (row_bytes g) (first_rows n hs) ++ t)
    (sym (append-nil (row_bytes g (hung_row n hs))))
    ∙ sym (flat_map-append (row_bytes g) (first_rows n hs) (hung_row n hs ∷ []))

all-append : (ms : List Mark) (rows : List (List Cell)) (row : List Cell)
    → AllByRecursion (Barred ms) rows → Barred ms row
    → AllByRecursion (Barred ms) (rows ++ row ∷ [])
all-append ms [] row a b = (b, tt)
all-append ms (r ∷ rows) row a b = (a.0, all-append ms rows row a.1 b)

first-in : (ms : List Mark) (n : ℕ) (hs : List HungLabel) → AreHung ms hs
    → AllByRecursion (Barred ms) (first_rows n hs)
unfolding first_rows
first-in ms zero hs a = tt
first-in ms (suc n) hs a =
    all-append ms (first_rows n hs) (hung_row n hs) (first-in ms n hs a) (hung-in ms n hs a)

other_rows : ℕ → List HungLabel → List (List Cell)
other_rows most hs = cond (most == 0) [] (first_rows most hs ++ hung_row most hs ∷ [])

other-bytes : (g : Gutter) (most : ℕ) (hs : List HungLabel)
    → rows_below g most hs ≡ flat_map (row_bytes g) (other_rows most hs)
unfolding other_rows first_rows
other-bytes g most hs = by_test (most == 0)
  where
    by_test : (b : Bool) → cond b [] (hung_rows g most hs ++ row_bytes g (hung_row most hs))
        ≡ flat_map (row_bytes g) (cond b [] (first_rows most hs ++ hung_row most hs ∷ []))
    by_test true = refl
    by_test false = first-bytes g (suc most) hs

other-in : (ms : List Mark) (most : ℕ) (hs : List HungLabel) → AreHung ms hs
    → AllByRecursion (Barred ms) (other_rows most hs)
unfolding other_rows
other-in ms most hs a = cond_both {A = List (List Cell)} (most == 0) []
    (first_rows most hs ++ hung_row most hs ∷ []) (AllByRecursion (Barred ms)) (λ yes. tt)
    (λ no. all-append ms (first_rows most hs) (hung_row most hs) (first-in ms most hs a)
    (hung-in ms most hs a))

pub rows-stand : (g : Gutter) (ms : List Mark) (old new : List ℕ) → new ≡ old ++ mark_rows g ms
    → AddsRows g ms old new
unfolding mark_rows rows_of
rows-stand g ms old new e =
    let hs = hung_labels 0 ms in
    let most = depth 0 hs in
    let a = hang-among ms ms 0 (λ x h. h) in
    record {
      signs = sign_row ms hs;
      others = other_rows most hs;
      whole = e ∙ ap (λ t. old ++ (row_bytes g (sign_row ms hs) ++ t)) (other-bytes g most hs);
      are_signs = signs-in ms hs a;
      are_bars = other-in ms most hs a;
    }

-- what `put_mark_rows` needs
pub ruleset adds_rows = (rows-stand)
