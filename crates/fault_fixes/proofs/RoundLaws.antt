-- The rounds of edits, and the best of them so far.
use Rattle.std.proofs.Common.{◌≡◌, ◌∙◌, ◌++◌, ◌<◌, ◌≤◌, ◌+◌, ℕ, zero, suc, Bool, true, false, List}
use Rattle.std.proofs.Common.{[], ◌∷◌, Option, None, Some, ap, sym, refl, subst, arith, append-nil}
use Rattle.std.proofs.Common.{append_assoc, length, length-append, map, nat_lt, IfNone, IfSome}
use Rattle.std.proofs.Common.{IsTrue, IsUtf8, chars, codes, replicate, drop, get_or, if◌then◌else◌}
use Rattle.std.proofs.Common.{inl, inr, nat_eq, option_map}
use Rattle.std.proofs.lemmas.Bool.{cases_lt, cases_order, false≢true}
use Rattle.std.proofs.lemmas.List.{drop_all, drop_more, map-append}
use Rattle.std.specs.Str.{bytes_eq}
use Rattle.rustc_parse_format.specs.Call.{Call, call}
use Rattle.rustc_parse_format.specs.Characters.{Text, byte_length, is_nil}
use Rattle.rustc_parse_format.specs.FaultIds.{fault_id}
use Rattle.rustc_parse_format.specs.Faults.{Fault, map_fault, UnmatchedBrace, MissingBrace}
use Rattle.rustc_parse_format.specs.Faults.{FillBrace, Underscore, TooLarge, Unnamed}
use Rattle.rustc_parse_format.specs.Faults.{TextAfterColon, RawIdentifier, LateFlag, MissingColon}
use Rattle.rustc_parse_format.specs.Faults.{LateDebug, LateAlign, Grouping, DebugPrint, LateSign}
use Rattle.rustc_parse_format.specs.Faults.{FieldAccess, TupleIndex}
use Rattle.rustc_parse_format.specs.Literal.{IsSource, raw_closing, raw_frame, raw_opening}
use Rattle.rustc_parse_format.specs.Marks.{Span}
use Rattle.rustc_parse_format.specs.State.{State, state_after, next_call}
use Rattle.rustc_parse_format.specs.Types.{Mode}
use Rattle.rustc_parse_format.specs.World.{Place, World, faults_in, hashes, place_of}
use Rattle.rustc_parse_format.proofs.Literals.Widths.{width-append, width-chars, width-cons}
use Rattle.rustc_parse_format.proofs.Walking.Progress.{call-lt}
use Rattle.fault_fixes.specs.Fixing.{FixedLiteral, IsRound, all_faults}
use Rattle.fault_fixes.specs.SeenEdits.{seen_fixed}
use Rattle.fault_fixes.specs.declared.fixes.FixedLiteral.{FixedLiteral as DeclaredFixed}
use Rattle.fault_fixes.specs.Rounds.{AreRounds, Best, IsBetter, IsFixed, count_left, ids, is_part}
use Rattle.fault_fixes.specs.Rounds.{faulty_count, faulty_calls, faulty_within, finds, most_rounds}
use Rattle.fault_fixes.specs.Rounds.{best_with}
use Rattle.fault_fixes.proofs.CallFaults.{all_faults-step}

-- The id of a fault does not depend on its spans.
id-kept : {A B : Type 0} (p : A → B) (f : Fault A) → fault_id (map_fault p f) ≡ fault_id f
unfolding fault_id
id-kept p (UnmatchedBrace s) = refl
id-kept p (MissingBrace c s o) = refl
id-kept p (FillBrace c s o) = refl
id-kept p (Underscore s) = refl
id-kept p (TooLarge ds s) = refl
id-kept p (Unnamed s) = refl
id-kept p (TextAfterColon s) = refl
id-kept p (RawIdentifier s q) = refl
id-kept p (LateFlag c s b) = refl
id-kept p (MissingColon s) = refl
id-kept p (LateDebug w s) = refl
id-kept p (LateAlign c s) = refl
id-kept p (Grouping s o) = refl
id-kept p (DebugPrint s o) = refl
id-kept p (LateSign s) = refl
id-kept p (FieldAccess s) = refl
id-kept p (TupleIndex s) = refl

ids-kept : (w : World) (fs : List (Fault Span)) → map fault_id (faults_in w fs) ≡ map fault_id fs
ids-kept w [] = refl
ids-kept w (f ∷ fs) =
    ap (λ x. x ∷ map fault_id (faults_in w fs)) (id-kept (place_of w) f)
    ∙ ap (λ xs. fault_id f ∷ xs) (ids-kept w fs)

-- The ids of the faults of all calls of a parser.
abbrev pub left_ids : State → List (List ℕ)
left_ids s = map fault_id (all_faults s.mode s.next s.rest)

-- Each call reads a character.
pub ids-shorter : (s new : State) → new ≡ record (state_after s (next_call s)) { errors = s.errors }
    → is_nil s.rest ≡ false → length new.rest < length s.rest
ids-shorter s new e some =
    rw e (call-lt s.mode s.next s.rest (λ n. false≢true (sym some ∙ ap is_nil n)))

-- With a call, its faults are found and no longer left.
pub ids-step : (s new : State) (old found : List (Fault Place)) (all : List (List ℕ))
    → new ≡ record (state_after s (next_call s)) { errors = s.errors } → is_nil s.rest ≡ false
    → found ≡ old ++ faults_in s.world (next_call s).faults
    → map fault_id old ++ left_ids s ≡ all → map fault_id found ++ left_ids new ≡ all
ids-step s new old found all e h g before =
    ap (λ fs. map fault_id fs ++ left_ids new) g
    ∙ ap (λ xs. xs ++ left_ids new)
    (map-append fault_id old (faults_in s.world (next_call s).faults))
    ∙ append_assoc (map fault_id old) (map fault_id (faults_in s.world (next_call s).faults))
    (left_ids new)
    ∙ ap (λ xs. map fault_id old ++ (xs ++ left_ids new))
    (ids-kept s.world (next_call s).faults)
    ∙ ap (λ t. map fault_id old ++ (map fault_id (next_call s).faults ++ left_ids t)) e
    ∙ ap (λ xs. map fault_id old ++ xs) (step s.mode s.next s.rest h) ∙ before
  where
    step : (m : Mode) (c : ℕ) (t : Text) → is_nil t ≡ false
        → map fault_id (call m c t).faults
        ++ map fault_id (all_faults m (call m c t).next (call m c t).rest)
        ≡ map fault_id (all_faults m c t)
    step m c [] h = absurd (cc)
    step m c (b ∷ t) h =
        sym (ap (map fault_id) (all_faults-step m c b t)
        ∙ map-append fault_id (call m c (b ∷ t)).faults
        (all_faults m (call m c (b ∷ t)).next (call m c (b ∷ t)).rest))

pub ids-end : (s : State) → is_nil s.rest ≡ true → left_ids s ≡ []
unfolding all_faults
ids-end s h = at_end s.mode s.next s.rest h
  where
    at_end : (m : Mode) (c : ℕ) (t : Text) → is_nil t ≡ true
        → map fault_id (all_faults m c t) ≡ []
    at_end m c [] h = refl
    at_end m c (b ∷ t) h = absurd (cc)

-- As many calls as there are characters are enough.
faulty-enough : (n m : ℕ) (mode : Mode) (c : ℕ) (t : Text) → length t ≤ n → length t ≤ m
    → faulty_within n mode c t ≡ faulty_within m mode c t
faulty-enough n m mode c [] h k = refl
faulty-enough zero m mode c (b ∷ t) h k = absurd (omega arith)
faulty-enough (suc n) zero mode c (b ∷ t) h k = absurd (omega arith)
faulty-enough (suc n) (suc m) mode c (b ∷ t) h k =
    let a : Call = call mode c (b ∷ t) in
    ap (λ x. finds a.faults + x) (faulty-enough n m mode a.next a.rest
    (omega (arith, call-lt mode c (b ∷ t) (λ e. absurd (cc))))
    (omega (arith, call-lt mode c (b ∷ t) (λ e. absurd (cc)))))

faulty-first : (mode : Mode) (c b : ℕ) (t : Text) → faulty_calls mode c (b ∷ t)
    ≡ finds (call mode c (b ∷ t)).faults
    + faulty_calls mode (call mode c (b ∷ t)).next (call mode c (b ∷ t)).rest
unfolding faulty_calls
faulty-first mode c b t =
    let a : Call = call mode c (b ∷ t) in
    ap (λ x. finds a.faults + x)
    (faulty-enough (length t) (length a.rest) mode a.next a.rest
    (omega (arith, call-lt mode c (b ∷ t) (λ e. absurd (cc)))) (omega arith))

-- How many calls of a parser that are left find a fault.
abbrev pub left_faulty : State → ℕ
left_faulty s = faulty_calls s.mode s.next s.rest

pub faulty-end : (s : State) → is_nil s.rest ≡ true → left_faulty s ≡ 0
unfolding faulty_calls
faulty-end s h = at_end s.mode s.next s.rest h
  where
    at_end : (m : Mode) (c : ℕ) (t : Text) → is_nil t ≡ true → faulty_calls m c t ≡ 0
    at_end m c [] h = refl
    at_end m c (b ∷ t) h = absurd (cc)

-- With a call that finds faults there is one more, and one less is left.
pub faulty-step : (s new : State) (old found : List (Fault Place)) (count all : ℕ)
    → new ≡ record (state_after s (next_call s)) { errors = s.errors } → is_nil s.rest ≡ false
    → found ≡ old ++ faults_in s.world (next_call s).faults → count + left_faulty s ≡ all
    → (if nat_lt (length old) (length found) then count + 1 else count) + left_faulty new ≡ all
faulty-step s new old found count all e h g before =
    ap (λ fs. (if nat_lt (length old) (length fs) then count + 1 else count) + left_faulty new) g
    ∙ ap (λ (t : State). (if nat_lt (length old)
    (length (old ++ faults_in s.world (next_call s).faults)) then count + 1 else count)
    + left_faulty t) e
    ∙ step s.world s.mode s.next s.rest h ∙ before
  where
    some : (w : World) (fs : List (Fault Span)) (x : ℕ)
        → (if nat_lt (length old) (length (old ++ faults_in w fs)) then count + 1 else count) + x
        ≡ count + (finds fs + x)
    some w [] x =
        let e : nat_lt (length old) (length (old ++ [])) ≡ false =
        search (arith, append-nil old) in rw e (omega arith)
    some w (f ∷ fs) x =
        let e : nat_lt (length old) (length (old ++ faults_in w (f ∷ fs))) ≡ true =
        search (arith, length-append old (faults_in w (f ∷ fs))) in rw e (omega arith)

    step : (w : World) (m : Mode) (c : ℕ) (t : Text) → is_nil t ≡ false
        → (if nat_lt (length old) (length (old ++ faults_in w (call m c t).faults))
        then count + 1 else count) + faulty_calls m (call m c t).next (call m c t).rest
        ≡ count + faulty_calls m c t
    step w m c [] h = absurd (cc)
    step w m c (b ∷ t) h =
        some w (call m c (b ∷ t)).faults _ ∙ sym (ap (λ x. count + x) (faulty-first m c b t))

-- The same where it finds some, and where it finds none.
pub faulty-more : (s new : State) (old found : List (Fault Place)) (count all : ℕ)
    → new ≡ record (state_after s (next_call s)) { errors = s.errors } → is_nil s.rest ≡ false
    → found ≡ old ++ faults_in s.world (next_call s).faults → count + left_faulty s ≡ all
    → length old < length found → count + 1 + left_faulty new ≡ all
faulty-more s new old found count all e h g before lt =
    let yes : nat_lt (length old) (length found) ≡ true = search (arith, lt) in
    let more = faulty-step s new old found count all e h g before in rw yes at more

pub faulty-same : (s new : State) (old found : List (Fault Place)) (count all : ℕ)
    → new ≡ record (state_after s (next_call s)) { errors = s.errors } → is_nil s.rest ≡ false
    → found ≡ old ++ faults_in s.world (next_call s).faults → count + left_faulty s ≡ all
    → length found ≤ length old → count + left_faulty new ≡ all
faulty-same s new old found count all e h g before le =
    let no : nat_lt (length old) (length found) ≡ false = search (arith, le) in
    let same = faulty-step s new old found count all e h g before in rw no at same

-- Whether the first elements that are left of two lists are the same decides what is left to find.
pub part-more : (xs ys : List (List ℕ)) (n i : ℕ) → n < length xs → i < length ys
    → is_part (drop n xs) (drop i ys)
    ≡ (if bytes_eq (get_or xs n []) (get_or ys i []) then is_part (drop (n + 1) xs)
    (drop (i + 1) ys) else is_part (drop n xs) (drop (i + 1) ys))
part-more xs ys n i h k = rw (drop_more xs n [] h, drop_more ys i [] k) refl

-- Nothing is a part of all, and else only nothing of nothing.
pub part-end : (xs ys : List (List ℕ)) (n i : ℕ) → n ≤ length xs → length ys ≤ i
    → nat_eq n (length xs) ≡ is_part (drop n xs) (drop i ys)
part-end xs ys n i h k = elim (cases_lt n (length xs)) [
  | inl lt ↦ rw (drop_more xs n [] lt, drop_all i ys k) (search (arith, lt))
  | inr le ↦ rw (drop_all n xs le) (search (arith, h, le))
]

-- A round has one result.
pub round-one : (mode : Mode) (style : Option ℕ) (appended : Bool) (f g h : FixedLiteral)
    → IsRound mode f.text style f.snippet appended g
    → IsRound mode f.text style f.snippet appended h → g ≡ h
round-one mode style appended f g h a b =
    same g h (a.edited.snippet ∙ sym b.edited.snippet) (a.edited.text ∙ sym b.edited.text)
  where
    same : (f g : FixedLiteral) → f.snippet ≡ g.snippet → f.text ≡ g.text → f ≡ g
    same f g d e =
        ap (λ (l : List ℕ). record f { snippet = l }) d
        ∙ ap (λ (t : List ℕ). record g { text = t }) e

-- So have n rounds.
pub rounds-one : (mode : Mode) (style : Option ℕ) (appended : Bool) (n : ℕ) (f g h : FixedLiteral)
    → AreRounds mode style appended n f g → AreRounds mode style appended n f h → g ≡ h
rounds-one mode style appended zero f g h a b = sym a ∙ b
rounds-one mode style appended (suc n) f g h (x, a, p) (y, b, q) =
    let e = rounds-one mode style appended n f x y a b in
    round-one mode style appended x g h p
    (subst (λ (z : FixedLiteral). IsRound mode z.text style z.snippet appended h) (sym e) q)

-- Before n rounds there were fewer.
pub rounds-front : (mode : Mode) (style : Option ℕ) (appended : Bool) (k n : ℕ) (f g : FixedLiteral)
    → k ≤ n → AreRounds mode style appended n f g
    → (h : FixedLiteral) × AreRounds mode style appended k f h
rounds-front mode style appended zero n f g le a = (f, refl)
rounds-front mode style appended (suc k) zero f g le a = absurd (omega arith)
rounds-front mode style appended (suc k) (suc n) f g le a = elim (cases_order (suc k) (suc n)) [
  | inl e ↦ (g, subst (λ m. AreRounds mode style appended m f g) (sym e) a)
  | inr (inl lt) ↦ rounds-front mode style appended (suc k) n f a.0 (omega (arith, lt)) a.1
  | inr (inr gt) ↦ absurd (omega (arith, gt, le))
]

-- The literal is better after some round, this number is that of its calls that find a fault, and
-- no earlier round leaves as few.
pub record IsFirst (mode : Mode) (style : Option ℕ) (appended : Bool) (f g : FixedLiteral)
    (fewest : ℕ) :
    Type 0 where
  pub count : fewest ≡ faulty_count mode g.text
  pub round : ℕ
  pub better : IsBetter mode style appended f round g
  pub early : (m : ℕ) (h : FixedLiteral) → IsBetter mode style appended f m h → m < round
      → fewest < faulty_count mode h.text

hash-width : (n : ℕ) → byte_length (replicate n 35) ≡ n
hash-width zero = refl
hash-width (suc n) = omega (arith, width-cons 35 (replicate n 35), hash-width n)

raw-width : (n : ℕ) (t : Text) → n ≤ byte_length (raw_frame n t)
raw-width n t =
    let whole : byte_length (raw_frame n t)
    ≡ byte_length (raw_opening n ++ t) + byte_length (raw_closing n) =
    width-append (raw_opening n ++ t) (raw_closing n) in
    let first : byte_length (raw_opening n)
    ≡ byte_length (codes "r" ++ replicate n 35) + byte_length (codes "\"") =
    width-append (codes "r" ++ replicate n 35) (codes "\"") in
    omega (
      arith,
      hash-width n,
      whole,
      first,
      width-append (raw_opening n) t,
      width-append (codes "r") (replicate n 35),
    )

-- A source literal has as many bytes as hashes.
hashes-within : (style : Option ℕ) (text snippet : List ℕ) (appended : Bool) → IsUtf8 snippet
    → IsSource (chars text) style (chars snippet) appended → hashes style ≤ length snippet
hashes-within None text snippet appended u h = omega arith
hashes-within (Some n) text snippet appended u (t, e, f) =
    let raw : n ≤ byte_length (raw_frame n t) = raw-width n t in
    let same : byte_length (chars snippet) ≡ byte_length (raw_frame n t) = ap byte_length e in
    omega (arith, raw, same, width-chars snippet u)

pub rounds-hashes : (mode : Mode) (style : Option ℕ) (appended : Bool) (n : ℕ) (f g : FixedLiteral)
    → AreRounds mode style appended (suc n) f g → hashes style ≤ length g.snippet
rounds-hashes mode style appended n f g (h, a, r) =
    hashes-within style g.text g.snippet appended r.edited.snippet_utf8 r.edited.is_source

-- Before anything is fixed there is a round.
pub first-round : (mode : Mode) (input : List ℕ) (style : Option ℕ) (literal : List ℕ)
    (appended : Bool) (f : FixedLiteral) → IsFixed mode input style literal appended f
    → (g : FixedLiteral) × IsRound mode input style literal appended g
first-round mode input style literal appended f x =
    let front = rounds-front mode style appended 1 x.round _ f x.better.some x.better.rounds in
    go front.0 front.1
  where
    go : (g : FixedLiteral)
        → AreRounds mode style appended 1 (record { snippet = literal; text = input }) g
        → (g : FixedLiteral) × IsRound mode input style literal appended g
    go g (h, e, r) = (
      g,
      subst (λ (z : FixedLiteral). IsRound mode z.text style z.snippet appended g) (sym e) r,
    )

-- The best of the first k rounds, and how many of its calls find a fault. Without a better one it
-- is none, and the number is that at the start.
pub record IsBest (mode : Mode) (style : Option ℕ) (appended : Bool) (f : FixedLiteral) (k : ℕ)
    (best : Option FixedLiteral) (fewest : ℕ) : Type 0 where
  pub most : fewest ≤ faulty_count mode f.text
  pub least : (n : ℕ) (h : FixedLiteral) → n ≤ k → IsBetter mode style appended f n h
      → fewest ≤ faulty_count mode h.text
  pub some : IfSome best (λ g. IsFirst mode style appended f g fewest)
  pub none : IfNone best (fewest ≡ faulty_count mode f.text)

-- A round that is no better than the best one.
pub best-stays : (mode : Mode) (style : Option ℕ) (appended : Bool) (f g : FixedLiteral) (k : ℕ)
    (best : Option FixedLiteral) (fewest : ℕ) → IsBest mode style appended f k best fewest
    → AreRounds mode style appended (suc k) f g
    → (IsTrue (is_part (ids mode g.text) (ids mode f.text)) → fewest ≤ faulty_count mode g.text)
    → IsBest mode style appended f (suc k) best fewest
best-stays mode style appended f g k best fewest b a c = record {
  most = b.most;
  least = λ n h le x. elim (cases_order n (suc k)) [
    | inl e ↦ (let same = rounds-one mode style appended (suc k) f g h a
        (subst (λ m. AreRounds mode style appended m f h) e x.rounds) in
        subst (λ (z : FixedLiteral). fewest ≤ faulty_count mode z.text) same
        (c (subst (λ (z : FixedLiteral). IsTrue (is_part (ids mode z.text) (ids mode f.text)))
        (sym same) x.old)))
    | inr (inl lt) ↦ b.least n h (omega (arith, lt)) x
    | inr (inr gt) ↦ absurd (omega (arith, gt, le))
  ];
  some = b.some;
  none = b.none;
}

-- A round that is better.
pub best-next : (mode : Mode) (style : Option ℕ) (appended : Bool) (f g : FixedLiteral) (k : ℕ)
    (best : Option FixedLiteral) (fewest : ℕ) → IsBest mode style appended f k best fewest
    → AreRounds mode style appended (suc k) f g → suc k ≤ most_rounds
    → IsTrue (is_part (ids mode g.text) (ids mode f.text))
    → faulty_count mode g.text < fewest
    → IsBest mode style appended f (suc k) (Some g) (faulty_count mode g.text)
best-next mode style appended f g k best fewest b a le part less = record {
  most = omega (arith, less, b.most);
  least = λ n h le x. elim (cases_order n (suc k)) [
    | inl e ↦ (let same = rounds-one mode style appended (suc k) f g h a
        (subst (λ m. AreRounds mode style appended m f h) e x.rounds) in
        subst (λ (z : FixedLiteral). faulty_count mode g.text ≤ faulty_count mode z.text) same
        (omega arith))
    | inr (inl lt) ↦ omega (arith, less, b.least n h (omega (arith, lt)) x)
    | inr (inr gt) ↦ absurd (omega (arith, gt, le))
  ];
  some = record {
    count = refl;
    round = suc k;
    better = record {
      some = omega arith;
      few = le;
      rounds = a;
      old = part;
      fewer = omega (arith, less, b.most);
    };
    early = λ m h x lt. omega (arith, less, b.least m h (omega (arith, lt)) x);
  };
  none = tt;
}

-- The count says whether all faults are old ones.
counted : (old : List (List ℕ)) (mode : Mode) (text : List ℕ) (n : ℕ)
    → Some n ≡ count_left old mode text
    → IsTrue (is_part (ids mode text) old) × (n ≡ faulty_count mode text)
counted old mode text n e = go (is_part (ids mode text) old) (faulty_count mode text) e
  where
    go : (b : Bool) (m : ℕ) → Some n ≡ (if b then Some m else None) → IsTrue b × (n ≡ m)
    go true m e = (refl, cc)
    go false m e = absurd (cc)

uncounted : (old : List (List ℕ)) (mode : Mode) (text : List ℕ) → None ≡ count_left old mode text
    → IsTrue (is_part (ids mode text) old) → ⊥
uncounted old mode text e = go (is_part (ids mode text) old) (faulty_count mode text) e
  where
    go : (b : Bool) (m : ℕ) → None ≡ (if b then Some m else None) → IsTrue b → ⊥
    go true m e h = absurd (cc)
    go false m e h = absurd (cc)

next-is : (k : ℕ) → suc k ≡ k + 1
next-is k = omega arith

-- Once a round is seen, the best one is known of those up to it.
pub best-offered : (mode : Mode) (style : Option ℕ) (appended : Bool) (f g : FixedLiteral) (k : ℕ)
    (b : Best) (o : Option ℕ) → IsBest mode style appended f k b.literal b.calls
    → AreRounds mode style appended (suc k) f g → k + 1 ≤ most_rounds
    → o ≡ count_left (ids mode f.text) mode g.text
    → IsBest mode style appended f (k + 1) (best_with b g o).literal (best_with b g o).calls
best-offered mode style appended f g k b None best a le e =
    subst (λ n. IsBest mode style appended f n b.literal b.calls) (next-is k)
    (best-stays mode style appended f g k b.literal b.calls best a
    (λ part. absurd (uncounted (ids mode f.text) mode g.text e part)))
best-offered mode style appended f g k b (Some n) best a le e =
    let h = counted (ids mode f.text) mode g.text n e in
    let part = h.0 in
    let calls = h.1 in
    elim (cases_lt n b.calls) [
      | inl lt ↦
          let yes : nat_lt n b.calls ≡ true = search (arith, lt) in
          rw (yes, calls) (subst (λ m. IsBest mode style appended f m (Some g)
          (faulty_count mode g.text))
          (next-is k) (best-next mode style appended f g k b.literal b.calls best a
          (omega (arith, le)) part
          (omega (arith, lt, calls))))
      | inr ge ↦
          let no : nat_lt n b.calls ≡ false = search (arith, ge) in
          rw no (subst (λ m. IsBest mode style appended f m b.literal b.calls) (next-is k)
          (best-stays mode style appended f g k b.literal b.calls best a
          (λ part. omega (arith, ge, calls))))
    ]

-- A round after these.
pub round-some : (mode : Mode) (style : Option ℕ) (appended : Bool) (f g : FixedLiteral) (k : ℕ)
    (o : Option DeclaredFixed) → AreRounds mode style appended (suc k) f g
    → IfSome o (λ h. IsRound mode g.text style g.snippet appended (seen_fixed h))
    → IfSome o (λ h. AreRounds mode style appended (suc (k + 1)) f (seen_fixed h))
round-some mode style appended f g k None a h = tt
round-some mode style appended f g k (Some x) a h =
    (g, subst (λ n. AreRounds mode style appended n f g) (next-is k) a, h)

pub round-none : (mode : Mode) (style : Option ℕ) (appended : Bool) (f g : FixedLiteral) (k : ℕ)
    (o : Option DeclaredFixed) → AreRounds mode style appended (suc k) f g
    → IfNone o ((h : FixedLiteral) → IsRound mode g.text style g.snippet appended h → ⊥)
    → IfNone o ((h : FixedLiteral) → AreRounds mode style appended (suc (k + 1)) f h → ⊥)
round-none mode style appended f g k (Some x) a h = tt
round-none mode style appended f g k None a none = λ h (x, b, r).
    let e = rounds-one mode style appended (k + 1) f x g b
    (subst (λ n. AreRounds mode style appended n f g) (next-is k) a) in
    none h (subst (λ (z : FixedLiteral). IsRound mode z.text style z.snippet appended h) e r)

-- A property of a literal, of which a contract sees this.
pub some-seen : (o : Option DeclaredFixed) (P : FixedLiteral → Type 0)
    → IfSome (option_map seen_fixed o) P → IfSome o (λ f. P (seen_fixed f))
some-seen None P h = tt
some-seen (Some f) P h = h

pub none-seen : (o : Option DeclaredFixed) (P : Type 0) → IfNone (option_map seen_fixed o) P
    → IfNone o P
none-seen None P h = h
none-seen (Some f) P h = tt

-- If no round leaves fewer, the best one is the result.
pub best-is : (mode : Mode) (input : List ℕ) (style : Option ℕ) (literal : List ℕ)
    (appended : Bool) (k : ℕ) (best : Option FixedLiteral) (fewest : ℕ)
    → IsBest mode style appended (record { snippet = literal; text = input }) k best fewest
    → ((n : ℕ) (h : FixedLiteral)
    → IsBetter mode style appended (record { snippet = literal; text = input }) n h
    → fewest ≤ faulty_count mode h.text)
    → IfSome best (λ g. IsFixed mode input style literal appended g)
best-is mode input style literal appended k None fewest b least = tt
best-is mode input style literal appended k (Some g) fewest b least = record {
  round = b.some.round;
  better = b.some.better;
  fewest = λ m h y. subst (λ c. c ≤ faulty_count mode h.text) b.some.count (least m h y);
  first = λ m h y lt. subst (λ c. c < faulty_count mode h.text) b.some.count
      (b.some.early m h y lt);
}

pub best-none : (mode : Mode) (input : List ℕ) (style : Option ℕ) (literal : List ℕ)
    (appended : Bool) (k : ℕ) (best : Option FixedLiteral) (fewest : ℕ)
    → IsBest mode style appended (record { snippet = literal; text = input }) k best fewest
    → ((n : ℕ) (h : FixedLiteral)
    → IsBetter mode style appended (record { snippet = literal; text = input }) n h
    → fewest ≤ faulty_count mode h.text)
    → IfNone best ((g : FixedLiteral) → IsFixed mode input style literal appended g → ⊥)
best-none mode input style literal appended k None fewest b least =
    λ g x. absurd (omega (arith, b.none, x.better.fewer, least x.round g x.better))
best-none mode input style literal appended k (Some h) fewest b least = tt

-- Where a round makes nothing, no more rounds are there,
pub rounds-end : (mode : Mode) (style : Option ℕ) (appended : Bool) (f : FixedLiteral) (k : ℕ)
    (best : Option FixedLiteral) (fewest : ℕ) → IsBest mode style appended f k best fewest
    → ((g : FixedLiteral) → AreRounds mode style appended (suc k) f g → ⊥)
    → (n : ℕ) (h : FixedLiteral) → IsBetter mode style appended f n h
    → fewest ≤ faulty_count mode h.text
rounds-end mode style appended f k best fewest b none n h x = elim (cases_order n (suc k)) [
  | inl e ↦ absurd (none h (subst (λ m. AreRounds mode style appended m f h) e x.rounds))
  | inr (inl lt) ↦ b.least n h (omega (arith, lt)) x
  | inr (inr gt) ↦ (let front = rounds-front mode style appended (suc k) n f h
      (omega (arith, gt)) x.rounds in absurd (none front.0 front.1))
]

-- and none leaves fewer than none.
pub none-left : (b : Best) (f : FixedLiteral) (o : Option ℕ) → o ≡ Some 0
    → (best_with b f o).calls ≡ 0
none-left b f None e = absurd (cc)
none-left b f (Some n) e =
    let none : n ≡ 0 = cc in
    elim (cases_lt n b.calls) [
      | inl lt ↦ (let h : nat_lt n b.calls ≡ true = search (arith, lt) in rw h none)
      | inr ge ↦ (let h : nat_lt n b.calls ≡ false = search (arith, ge) in
          rw h (omega (arith, ge, none)))
    ]

-- A literal is fixed to one result.
pub fixed-one : (mode : Mode) (input : List ℕ) (style : Option ℕ) (literal : List ℕ)
    (appended : Bool) (g h : FixedLiteral) → IsFixed mode input style literal appended g
    → IsFixed mode input style literal appended h → g ≡ h
fixed-one mode input style literal appended g h a b = elim (cases_order a.round b.round) [
  | inl e ↦ rounds-one mode style appended b.round (record { snippet = literal; text = input }) g h
      (subst (λ n. AreRounds mode style appended n (record { snippet = literal; text = input }) g)
      e a.better.rounds) b.better.rounds
  | inr (inl lt) ↦ absurd (omega (
    arith,
    b.first a.round g a.better lt,
    a.fewest b.round h b.better,
  ))
  | inr (inr gt) ↦ absurd (omega (
    arith,
    a.first b.round h b.better gt,
    b.fewest a.round g a.better,
  ))
]
