-- The faults of all calls, where after each call only the first are kept and the others counted.
use Rattle.std.proofs.Common.{◌≡◌, ◌≢◌, ℕ, suc, zero, ◌+◌, ◌≤◌, ◌++◌, false, true, Bool}
use Rattle.std.proofs.Common.{◌∷◌, length, take, refl, sym, ap, ◌∙◌, arith, List, []}
use Rattle.std.proofs.Common.{append-nil, append_assoc, if◌then◌else◌, length-append, subst}
use Rattle.rustc_parse_format.specs.Call.{Call, call}
use Rattle.rustc_parse_format.specs.Characters.{Text, is_nil}
use Rattle.rustc_parse_format.specs.Faults.{Fault, Message}
use Rattle.rustc_parse_format.specs.State.{State, state_after, next_call}
use Rattle.rustc_parse_format.specs.Types.{Mode}
use Rattle.rustc_parse_format.specs.World.{World, Place, faults_in}
use Rattle.rustc_parse_format.proofs.Walking.Progress.{call-lt}
use Rattle.format_lint.specs.Findings.{AreCounted, Finding, add_faults, findings_from}
use Rattle.format_lint.specs.Findings.{findings_within, marked_finding, marked_findings}
use Rattle.format_lint.specs.Findings.{mistake_count, most_drawn}
use Rattle.format_lint.specs.Findings.{waits_after, waits_after_all}
use Rattle.format_lint.specs.SeenLint.{Keeps}
use Rattle.format_lint.specs.declared.findings.Findings.{Findings}

-- A fault counts if it is a mistake of its own.
abbrev pub counts : Finding → ℕ
counts f = if f.is_consequence then 0 else 1

mistake_count-more : (fs : List Finding) (f : Finding)
    → mistake_count (fs ++ f ∷ []) ≡ mistake_count fs + counts f
mistake_count-more [] f = omega arith
mistake_count-more (g ∷ fs) f = omega (arith, mistake_count-more fs f)

-- The first elements of a list that has so many are those of a longer one.
still-first : {A : Type 0} (n : ℕ) (l m : List A) → n ≤ length l → take n l ≡ take n (l ++ m)
still-first zero l m h = refl
still-first (suc n) [] m h = absurd (omega arith)
still-first (suc n) (x ∷ l) m h = ap (λ t. x ∷ t) (still-first n l m (omega arith))

-- Where as many are kept as are drawn, another one is counted.
pub counted-other : (first fs : List Finding) (others own : ℕ) (f : Finding)
    → AreCounted first others own fs → most_drawn ≤ length first
    → AreCounted first (others + 1) (own + counts f) (fs ++ f ∷ [])
counted-other first fs others own f h full =
    let long : most_drawn ≤ length fs = omega (arith, full, h.all_are) in
    record {
      first_are = h.first_are ∙ still-first most_drawn fs (f ∷ []) long;
      all_are = omega (arith, h.all_are, length-append fs (f ∷ []));
      own_are = ap (λ n. n + counts f) h.own_are ∙ sym (mistake_count-more fs f);
    }

-- The faults of a call are added one after the other: these are left of all, and `later` says
-- whether one was added.
pub record AreAdded (old new : Findings) (later : Bool) (left all : List (Fault Place)) :
    Type 0 where
  pub done : List Finding
  pub kept : (fs : List Finding) → Keeps old fs → Keeps new (fs ++ done)
  pub all_are : done ++ marked_findings new.is_waiting later left
      ≡ marked_findings old.is_waiting false all
  pub waits_are : waits_after_all new.is_waiting left ≡ waits_after_all old.is_waiting all

pub added-start : (f : Findings) (left all : List (Fault Place)) → left ≡ all
    → AreAdded f f false left all
added-start f left all e = record {
  done = [];
  kept = λ fs h. subst (Keeps f) (sym (append-nil fs)) h;
  all_are = ap (marked_findings f.is_waiting false) e;
  waits_are = ap (waits_after_all f.is_waiting) e;
}

pub added-next : (old f g : Findings) (later : Bool) (x : Fault Place)
    (left more all : List (Fault Place)) → AreAdded old f later left all → left ≡ x ∷ more
    → ((fs : List Finding) → Keeps f fs → Keeps g (fs ++ marked_finding f.is_waiting later x ∷ []))
    → g.is_waiting ≡ waits_after f.is_waiting x → AreAdded old g true more all
added-next old f g later x left more all h e k w =
    let own = marked_finding f.is_waiting later x in
    record {
      done = h.done ++ own ∷ [];
      kept = λ fs before. subst (Keeps g) (append_assoc fs h.done (own ∷ []))
          (k (fs ++ h.done) (h.kept fs before));
      all_are = append_assoc h.done (own ∷ []) (marked_findings g.is_waiting true more)
          ∙ ap (λ b. h.done ++ own ∷ marked_findings b true more) w
          ∙ ap (λ l. h.done ++ marked_findings f.is_waiting later l) (sym e) ∙ h.all_are;
      waits_are = ap (λ b. waits_after_all b more) w
          ∙ ap (waits_after_all f.is_waiting) (sym e) ∙ h.waits_are;
    }

pub added-kept : (old new : Findings) (later : Bool) (left all : List (Fault Place))
    (fs : List Finding) → AreAdded old new later left all → left ≡ [] → Keeps old fs
    → Keeps new (fs ++ marked_findings old.is_waiting false all)
added-kept old new later left all fs h e before =
    let whole : h.done ≡ marked_findings old.is_waiting false all =
    sym (append-nil h.done) ∙ ap (λ l. h.done ++ marked_findings new.is_waiting later l) (sym e)
    ∙ h.all_are in
    subst (λ l. Keeps new (fs ++ l)) whole (h.kept fs before)

pub added-is_waiting : (old new : Findings) (later : Bool) (left all : List (Fault Place))
    → AreAdded old new later left all → left ≡ []
    → new.is_waiting ≡ waits_after_all old.is_waiting all
added-is_waiting old new later left all h e =
    ap (waits_after_all new.is_waiting) (sym e) ∙ h.waits_are

call-shorter : (mode : Mode) (c b : ℕ) (t : Text)
    → length (call mode c (b ∷ t)).rest ≤ length t
call-shorter mode c b t = omega (arith, call-lt mode c (b ∷ t) (λ e. absurd (cc)))

-- As many calls as there are characters are enough.
within-enough : (w : World) (n m : ℕ) (mode : Mode) (is_waiting : Bool) (c : ℕ) (t : Text)
    → length t ≤ n → length t ≤ m
    → findings_within w n mode is_waiting c t ≡ findings_within w m mode is_waiting c t
within-enough w n m mode is_waiting c [] h k = refl
within-enough w zero m mode is_waiting c (b ∷ t) h k = absurd (omega arith)
within-enough w (suc n) zero mode is_waiting c (b ∷ t) h k = absurd (omega arith)
within-enough w (suc n) (suc m) mode is_waiting c (b ∷ t) h k =
    let a : Call = call mode c (b ∷ t) in
    let fs = add_faults [] (faults_in w a.faults) in
    ap (λ l. marked_findings is_waiting false fs ++ l)
    (within-enough w n m mode (waits_after_all is_waiting fs)
    a.next a.rest (omega (arith, call-shorter mode c b t)) (omega (arith, call-shorter mode c b t)))

-- The faults of all calls are those of the first and those of the calls after it.
findings-step : (is_waiting : Bool) (s : State) → is_nil s.rest ≡ false
    → findings_from is_waiting s
    ≡ marked_findings is_waiting false (add_faults [] (faults_in s.world (next_call s).faults))
    ++ findings_from
    (waits_after_all is_waiting (add_faults [] (faults_in s.world (next_call s).faults)))
    (state_after s (next_call s))
unfolding findings_from
findings-step is_waiting s h = step s.world s.mode s.next s.rest h
  where
    step : (w : World) (mode : Mode) (c : ℕ) (t : Text) → is_nil t ≡ false
        → findings_within w (length t) mode is_waiting c t
        ≡ marked_findings is_waiting false (add_faults [] (faults_in w (call mode c t).faults))
        ++ findings_within w (length (call mode c t).rest) mode
        (waits_after_all is_waiting (add_faults [] (faults_in w (call mode c t).faults)))
        (call mode c t).next (call mode c t).rest
    step w mode c [] h = absurd (cc)
    step w mode c (b ∷ t) h =
        let a : Call = call mode c (b ∷ t) in
        let fs = add_faults [] (faults_in w a.faults) in
        ap (λ l. marked_findings is_waiting false fs ++ l)
        (within-enough w (length t) (length a.rest) mode
        (waits_after_all is_waiting fs) a.next a.rest (call-shorter mode c b t) (omega arith))

findings-end : (is_waiting : Bool) (s : State) → is_nil s.rest ≡ true
    → findings_from is_waiting s ≡ []
unfolding findings_from
findings-end is_waiting s h = at_end s.world s.mode s.next s.rest h
  where
    at_end : (w : World) (mode : Mode) (c : ℕ) (t : Text) → is_nil t ≡ true
        → findings_within w (length t) mode is_waiting c t ≡ []
    at_end w mode c [] h = refl
    at_end w mode c (b ∷ t) h = absurd (cc)

-- A parser without errors, the faults of the calls before, and all.
pub record AreFound (s : State) (f : Findings) (whole : List Finding) : Type 0 where
  pub none : s.errors ≡ []
  pub before : List Finding
  pub kept : Keeps f before
  pub whole_is : before ++ findings_from f.is_waiting s ≡ whole

pub found-start : (s : State) (f : Findings) → s.errors ≡ [] → Keeps f [] → f.is_waiting ≡ false
    → AreFound s f (findings_from false s)
found-start s f e k w = record {
  none = e;
  before = [];
  kept = k;
  whole_is = ap (λ b. findings_from b s) w;
}

-- A call without errors before it leaves none.
pub no_errors : (s new : State) → s.errors ≡ []
    → new ≡ record (state_after s (next_call s)) { errors = s.errors }
    → new ≡ record (state_after s (next_call s)) { errors = [] }
no_errors s new none e = e ∙ ap (λ es. record (state_after s (next_call s)) { errors = es }) none

pub found-next : (s new : State) (f g : Findings) (found : List (Fault Place))
    (whole : List Finding) → AreFound s f whole
    → new ≡ record (state_after s (next_call s)) { errors = s.errors } → is_nil s.rest ≡ false
    → found ≡ faults_in s.world (next_call s).faults
    → ((fs : List Finding) → Keeps f fs
    → Keeps g (fs ++ marked_findings f.is_waiting false (add_faults [] found)))
    → g.is_waiting ≡ waits_after_all f.is_waiting (add_faults [] found) → AreFound new g whole
unfolding findings_from
found-next s new f g found whole h e some is k w =
    let later = state_after s (next_call s) in
    let own = marked_findings f.is_waiting false (add_faults [] found) in
    let same : findings_from f.is_waiting s ≡ own ++ findings_from g.is_waiting new =
    findings-step f.is_waiting s some
    ∙ ap (λ fs. marked_findings f.is_waiting false (add_faults [] fs)
    ++ findings_from (waits_after_all f.is_waiting (add_faults [] fs)) later) (sym is)
    ∙ ap (λ b. own ++ findings_from b later) (sym w)
    ∙ ap (λ l. own ++ l) (sym (ap (findings_from g.is_waiting) e
    ∙ forgotten g.is_waiting later s.errors)) in
    record {
      none = ap (λ (u : State). u.errors) e ∙ h.none;
      before = h.before ++ own;
      kept = k h.before h.kept;
      whole_is = append_assoc h.before own (findings_from g.is_waiting new)
          ∙ ap (λ l. h.before ++ l) (sym same) ∙ h.whole_is;
    }
  where
    -- the findings of later calls do not depend on earlier errors
    forgotten : (is_waiting : Bool) (u : State) (es : List (Message Place))
        → findings_from is_waiting (record u { errors = es }) ≡ findings_from is_waiting u
    forgotten is_waiting u es = refl

pub some-left : (t : Text) → t ≢ [] → is_nil t ≡ false
some-left [] some = absurd (some refl)
some-left (c ∷ t) some = refl

-- In the end all faults are found.
pub found-end : (s : State) (f : Findings) (whole : List Finding) → AreFound s f whole
    → is_nil s.rest ≡ true → Keeps f whole
found-end s f whole h e =
    subst (Keeps f) (sym (append-nil h.before)
    ∙ ap (λ l. h.before ++ l) (sym (findings-end f.is_waiting s e)) ∙ h.whole_is) h.kept
