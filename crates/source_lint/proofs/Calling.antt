-- A call that is read.
use Rattle.std.proofs.Common.{◌≡◌, ◌+◌, ◌-◌, ℕ, Bool, List, Option, None}
use Rattle.std.proofs.Common.{Some, sym, subst, ◌∙◌, length, length-drop, arith, drop}
use Rattle.std.proofs.Common.{take}
use Rattle.std.specs.Prelude.{Result, slice_get}
use Rattle.std.proofs.lemmas.List.{take_all}
use Rattle.std.proofs.lemmas.Option.{none-some}
use Rattle.rustc_parse_format.specs.Characters.{Text}
use Rattle.rust_trees.specs.Forests.{IsPair}
use Rattle.rust_trees.specs.Leaves.{Leaf}
use Rattle.format_calls.specs.Arguments.{AreArguments}
use Rattle.format_calls.specs.declared.listing.Call.{Call}
use Rattle.format_calls.specs.declared.split.Argument.{Argument}
use Rattle.call_faults.specs.Arguments.{FormatArgument}
use Rattle.source_report.specs.declared.report.CallReading.{CallReading}
use Rattle.source_report.specs.declared.report.Finding.{Finding}
use Rattle.asm_lint.proofs.Openings.{opening-once}
use Rattle.source_lint.specs.Readings.{ReadsBy, ReadsLiteral, ReadsUnless, index_or}

-- The format string is there.
pub string-there : {B : Type 0} (args : List Argument) (n : ℕ) (a : Argument)
    → slice_get args n ≡ Some a → ◌≡◌ {A = Option Argument} None (slice_get args n) → B
string-there args n a e f = absurd (none-some a (f ∙ e))

-- The arguments after one of them.
pub after-one : (args : List Argument) (n : ℕ)
    → take (length args - (n + 1)) (drop (n + 1) args) ≡ drop (n + 1) args
after-one args n =
    let d = length-drop (n + 1) args in
    take_all (length args - (n + 1)) (drop (n + 1) args) (omega (arith, d))

-- The same is read where all that is known of the call is the same.
pub reads-by : (t : Text) (a b p q m n : Bool) (gs hs : List FormatArgument) (r : CallReading)
    (fs : List Finding) → a ≡ b → p ≡ q → m ≡ n → gs ≡ hs → ReadsLiteral t a p m gs r fs
    → ReadsLiteral t b q n hs r fs
reads-by t a b p q m n gs hs r fs e f g h k =
    subst (λ v. ReadsLiteral t v q n hs r fs) e
    (subst (λ v. ReadsLiteral t a v n hs r fs) f
    (subst (λ v. ReadsLiteral t a p v hs r fs) g
    (subst (λ (v : List FormatArgument). ReadsLiteral t a p m v r fs) h k)))

-- The reading of a call whose macro the file does not define.
pub reads-here : (is_new appended : Bool) (t : Option CallReading) (xs : List Leaf) (c : Call)
    (bs : List Argument) (o : Result ℕ CallReading) (r : CallReading) (fs : List Finding) → None ≡ t
    → AreArguments xs (c.name + 3) bs c.close → o ≡ index_or is_new xs c.rule bs
    → ReadsBy is_new appended xs c bs o r fs → ReadsUnless t is_new appended xs c r fs
reads-here is_new appended t xs c bs o r fs n a e h =
    subst (λ v. ReadsUnless v is_new appended xs c r fs) n
    (bs, a, subst (λ v. ReadsBy is_new appended xs c bs v r fs) e h)

-- The arguments of a call, by the pair that its last token closes.
pub arguments-here : (xs : List Leaf) (c : Call) (bs ds : List Argument) (n : ℕ) → ds ≡ bs
    → IsPair xs (c.name + 2) c.close → IsPair xs n c.close → AreArguments xs (n + 1) bs c.close
    → AreArguments xs (c.name + 3) ds c.close
arguments-here xs c bs ds n d p q a =
    let e = opening-once xs n (c.name + 2) c.close q p in
    let m : n + 1 ≡ c.name + 3 = omega (arith, e) in
    subst (λ v. AreArguments xs (c.name + 3) v c.close) (sym d)
    (subst (λ v. AreArguments xs v bs c.close) m a)
