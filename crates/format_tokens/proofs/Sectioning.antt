-- The sections of a text have its tokens and its faults, in order.
use Rattle.std.proofs.Common.{◌≡◌, ℕ, suc, zero, ◌++◌, Bool, true, false, cond, List, [], ◌∷◌}
use Rattle.std.proofs.Common.{length, map, refl, sym, ap, ◌∙◌, append_assoc}
use Rattle.std.specs.Prelude.{◌&&◌, ◌||◌, not, flat_map}
use Rattle.std.specs.List.{AllByRecursion}
use Rattle.std.proofs.lemmas.List.Folds.{list_any-append}
use Rattle.rustc_parse_format.specs.Call.{call}
use Rattle.rustc_parse_format.specs.Characters.{Text}
use Rattle.rustc_parse_format.specs.Faults.{Fault}
use Rattle.rustc_parse_format.specs.Marks.{Span}
use Rattle.rustc_parse_format.specs.Types.{Mode, wants_names}
use Rattle.format_tokens.specs.declared.culprits.Role.{Role}
use Rattle.format_tokens.specs.declared.culprits.Role.TheVariants.{OpenBrace, CloseBrace}
use Rattle.format_tokens.specs.declared.culprits.Role.TheVariants.{Text as TextRole}
use Rattle.format_tokens.specs.declared.culprits.Role.TheVariants.{Name, Number, Message, Other}
use Rattle.format_tokens.specs.declared.kinds.Kind.TheVariants.{OpenBrace as OpenKind, Unexpected}
use Rattle.format_tokens.specs.Culprits.{closes, closes_or, fits, has_argument, inside_after}
use Rattle.format_tokens.specs.Culprits.{marked_tokens, role_of}
use Rattle.format_tokens.specs.Sections.{Section, empty, faults_of, faults_within, has_fault}
use Rattle.format_tokens.specs.Sections.{has_mark, in_front, is_mark, mark_section, opens, sections}
use Rattle.format_tokens.specs.Sections.{sections_within}
use Rattle.format_tokens.specs.Tokens.{Label}
use Rattle.format_tokens.specs.Walk.{call_tokens, read_tokens, tokens_of, tokens_within}
use Rattle.format_tokens.proofs.CallMarks.{Opened, fault-append}
use Rattle.format_tokens.proofs.SectionLaws.{section-marks, tail, within-opened}

-- Tokens that begin with an opening brace: those before them are marked without a look at them.
record IsCut (names : Bool) (y : List Label) : Type 0 where
  open_again : closes y ≡ false
  no_argument : has_argument y ≡ false
  anyway : (inside : Bool) → marked_tokens names inside y ≡ marked_tokens names false y

cut-nil : (names : Bool) → IsCut names []
cut-nil names = record { open_again = refl; no_argument = refl; anyway = λ inside. refl }

cut-open : (names : Bool) (u : Text) (ts : List Label) → IsCut names ((OpenKind, u) ∷ ts)
unfolding role_of
cut-open names u ts = record { open_again = refl; no_argument = refl; anyway = λ inside. refl }

closes-before : (x y : List Label) → closes y ≡ false → closes (x ++ y) ≡ closes x
closes-before [] y h = h
closes-before (l ∷ x) y h = ap (λ b. closes_or b (role_of l.0)) (closes-before x y h)

argument-before : (x y : List Label) → has_argument y ≡ false
    → has_argument (x ++ y) ≡ has_argument x
argument-before [] y h = h
argument-before (l ∷ x) y h = refl

fits-before : (names inside : Bool) (x y : List Label) (r : Role) → IsCut names y
    → fits names inside (x ++ y) r ≡ fits names inside x r
fits-before names inside x y OpenBrace h =
    ap (λ b. b && (not names || has_argument (x ++ y))) (closes-before x y h.open_again)
    ∙ ap (λ b. closes x && (not names || b)) (argument-before x y h.no_argument)
fits-before names inside x y CloseBrace h = refl
fits-before names inside x y TextRole h = refl
fits-before names inside x y Name h = refl
fits-before names inside x y Number h = refl
fits-before names inside x y Message h = refl
fits-before names inside x y Other h = refl

marked-append : (names inside : Bool) (x y : List Label) → IsCut names y
    → marked_tokens names inside (x ++ y)
    ≡ marked_tokens names inside x ++ marked_tokens names false y
marked-append names inside [] y h = h.anyway inside
marked-append names inside (l ∷ x) y h =
    ap (λ f. (cond f l.0 Unexpected, l.1)
    ∷ marked_tokens names (inside_after inside f (role_of l.0)) (x ++ y))
    (fits-before names inside x y (role_of l.0) h)
    ∙ ap (λ ts. (cond (fits names inside x (role_of l.0)) l.0 Unexpected, l.1) ∷ ts)
    (marked-append names (inside_after inside (fits names inside x (role_of l.0)) (role_of l.0))
    x y h)

-- The tokens of sections, and their faults.
abbrev all_tokens : List Section → List Label
all_tokens ss = flat_map (λ (s : Section). s.tokens) ss

abbrev all_faults : List Section → List (Fault Span)
all_faults ss = flat_map (λ (s : Section). s.faults) ss

sections-cut : (names : Bool) (ss : List Section) → AllByRecursion (Opened names) ss
    → IsCut names (all_tokens ss)
sections-cut names [] h = cut-nil names
sections-cut names (s ∷ ss) h = rw h.0.begins (cut-open names h.0.text (h.0.others
    ++ all_tokens ss))

marked-sections : (mode : Mode) (ss : List Section) → AllByRecursion (Opened (wants_names mode)) ss
    → marked_tokens (wants_names mode) false (all_tokens ss)
    ≡ all_tokens (map (mark_section mode) ss)
marked-sections mode [] h = refl
marked-sections mode (s ∷ ss) h =
    marked-append (wants_names mode) false s.tokens (all_tokens ss)
    (sections-cut (wants_names mode) ss h.1)
    ∙ ap (λ ts. marked_tokens (wants_names mode) false s.tokens ++ ts) (marked-sections mode ss h.1)

-- The first section need not begin with one.
marked-first : (mode : Mode) (ss : List Section)
    → AllByRecursion (Opened (wants_names mode)) (tail ss)
    → marked_tokens (wants_names mode) false (all_tokens ss)
    ≡ all_tokens (map (mark_section mode) ss)
unfolding tail
marked-first mode [] h = refl
marked-first mode (s ∷ ss) h =
    marked-append (wants_names mode) false s.tokens (all_tokens ss)
    (sections-cut (wants_names mode) ss h)
    ∙ ap (λ ts. marked_tokens (wants_names mode) false s.tokens ++ ts) (marked-sections mode ss h)

tokens-front : (fs : List (Fault Span)) (ls : List Label) (ss : List Section)
    → all_tokens (in_front fs ls ss) ≡ ls ++ all_tokens ss
tokens-front fs ls [] = refl
tokens-front fs ls (s ∷ ss) = append_assoc ls s.tokens (all_tokens ss)

faults-front : (fs : List (Fault Span)) (ls : List Label) (ss : List Section)
    → all_faults (in_front fs ls ss) ≡ fs ++ all_faults ss
faults-front fs ls [] = refl
faults-front fs ls (s ∷ ss) = append_assoc fs s.faults (all_faults ss)

tokens-after : (v : Bool) (ss : List Section) → all_tokens (cond v (empty ∷ ss) ss) ≡ all_tokens ss
tokens-after true ss = refl
tokens-after false ss = refl

faults-after : (v : Bool) (ss : List Section) → all_faults (cond v (empty ∷ ss) ss) ≡ all_faults ss
faults-after true ss = refl
faults-after false ss = refl

within-tokens : (n : ℕ) (mode : Mode) (c : ℕ) (t : Text)
    → tokens_within n mode c t ≡ all_tokens (sections_within n mode c t)
within-tokens zero mode c t = refl
within-tokens (suc n) mode c [] = refl
within-tokens (suc n) mode c (b ∷ t) =
    let k = call mode c (b ∷ t) in
    let ls = call_tokens mode (b ∷ t) k.rest in
    let ss = sections_within n mode k.next k.rest in
    ap (λ ts. ls ++ ts) (within-tokens n mode k.next k.rest ∙ sym (tokens-after (opens k.rest) ss))
    ∙ sym (tokens-front k.faults ls (cond (opens k.rest) (empty ∷ ss) ss))

within-faults : (n : ℕ) (mode : Mode) (c : ℕ) (t : Text)
    → faults_within n mode c t ≡ all_faults (sections_within n mode c t)
within-faults zero mode c t = refl
within-faults (suc n) mode c [] = refl
within-faults (suc n) mode c (b ∷ t) =
    let k = call mode c (b ∷ t) in
    let ls = call_tokens mode (b ∷ t) k.rest in
    let ss = sections_within n mode k.next k.rest in
    ap (λ fs. k.faults ++ fs)
    (within-faults n mode k.next k.rest ∙ sym (faults-after (opens k.rest) ss))
    ∙ sym (faults-front k.faults ls (cond (opens k.rest) (empty ∷ ss) ss))

pub sections-tokens : (mode : Mode) (t : Text) → tokens_of mode t ≡ all_tokens (sections mode t)
unfolding read_tokens sections
sections-tokens mode t =
    ap (marked_tokens (wants_names mode) false) (within-tokens (length t) mode 0 t)
    ∙ marked-first mode (sections_within (length t) mode 0 t) (within-opened mode t)

faults-marked : (mode : Mode) (ss : List Section)
    → all_faults ss ≡ all_faults (map (mark_section mode) ss)
faults-marked mode [] = refl
faults-marked mode (s ∷ ss) = ap (λ fs. s.faults ++ fs) (faults-marked mode ss)

pub sections-faults : (mode : Mode) (t : Text) → faults_of mode t ≡ all_faults (sections mode t)
unfolding faults_of sections
sections-faults mode t = within-faults (length t) mode 0 t
    ∙ faults-marked mode (sections_within (length t) mode 0 t)

-- So a text has a mark exactly if it has a fault.
all-agree : (ss : List Section)
    → AllByRecursion (λ (s : Section). has_mark s.tokens ≡ has_fault s.faults) ss
    → has_mark (all_tokens ss) ≡ has_fault (all_faults ss)
all-agree [] h = refl
all-agree (s ∷ ss) h =
    list_any-append (λ (l : Label). is_mark l.0) s.tokens (all_tokens ss)
    ∙ (ap (λ b. b || has_mark (all_tokens ss)) h.0
    ∙ (ap (λ b. has_fault s.faults || b) (all-agree ss h.1)
    ∙ sym (fault-append s.faults (all_faults ss))))

pub text-marks : (mode : Mode) (t : Text)
    → has_mark (tokens_of mode t) ≡ has_fault (faults_of mode t)
text-marks mode t =
    ap has_mark (sections-tokens mode t) ∙ all-agree (sections mode t) (section-marks mode t)
    ∙ sym (ap has_fault (sections-faults mode t))
