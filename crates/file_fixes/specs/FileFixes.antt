-- A file with the suggestions to its faults applied.
use Rattle.std.specs.Prelude.{◌≡◌, ◌⊎◌, ◌++◌, ◌∷◌, ◌≤◌, ◌/◌, ◌^◌, ℕ, zero, suc, Bool, List, []}
use Rattle.std.specs.Prelude.{Option, Some, None, IsTrue, IsUtf8, chars, if◌then◌else◌, length}
use Rattle.std.specs.Prelude.{map, max, string_bytes}
use Rattle.std.specs.List.{list_all}
use Rattle.std.specs.declared.alloc.Global.{Global}
use Rattle.std.specs.declared.string.String.{String}
use Rattle.fault_fixes.specs.Edits.{Edit, edited_bytes}
use Rattle.fault_fixes.specs.Losing.{IsMerged}
use Rattle.rust_tokens.specs.Files.{ReadsFile}
use Rattle.rust_tokens.specs.Spans.{placed_tokens}
use Rattle.rust_tokens.specs.Tokens.{Lexeme}
use Rattle.format_calls.specs.Rows.{Entry}
use Rattle.source_lint.specs.Reports.{IsReport}
use Rattle.source_report.specs.declared.report.Finding.{Finding}
use Rattle.source_report.specs.declared.report.Report.{Report}
use Rattle.source_report.specs.Suggestions.{all_edits, edits_of, end_after, is_mended}
use Rattle.source_report.specs.Suggestions.{mended_faults}
use Rattle.file_fixes.specs.AllFaults.{HasFaults}
use Rattle.file_fixes.specs.Mending.{are_gone, have_literals, literal_count, moved_ends}
use Rattle.file_fixes.specs.Outside.{KeepsTokens, is_known}

-- The bytes of a text.
abbrev pub bytes_or : Option (String Global) → List ℕ → List ℕ
bytes_or None bs = bs
bytes_or (Some s) bs = string_bytes s

-- The report q is no worse than r: the file does not break, has as many calls, and no more faults.
pub record IsNoWorse (r q : Report) : Type 0 where
  pub old_is_whole : r.first_break ≡ None
  pub new_is_whole : q.first_break ≡ None
  pub calls : length q.calls.items ≡ length r.calls.items
  pub findings : length q.findings.items ≤ length r.findings.items

-- The name of a fault in a file that changes: the id of its kind, and its title.
pub record FaultName : Type 0 where
  pub id : List ℕ
  pub title : List ℕ

abbrev pub fault_name : Finding → FaultName
fault_name x = record { id = x.id.now; title = string_bytes x.title }

-- Of these faults, one after the other, those that are not mended in a round, where the last edit
-- before them ends at the byte offset `at`: all but those of `mended_faults`.
abbrev pub unmended_findings : ℕ → List Finding → List Finding
unmended_findings at [] = []
unmended_findings at (x
    ∷ xs) = if is_mended at x then unmended_findings (end_after at (edits_of x)) xs
    else x ∷ unmended_findings at xs

-- The faults xs become the faults ys in a round: those that are not mended stay, in their order,
-- and others come.
pub record FaultsStay (xs ys : List Finding) : Type 0 where
  pub others : List FaultName
  pub are_all : IsMerged (map fault_name (unmended_findings 0 xs)) others (map fault_name ys)

-- The edits of those of the faults xs that are mended in one round.
abbrev pub round_edits : List Finding → List Edit
round_edits xs = all_edits (mended_faults 0 xs)

-- The bytes bs with these edits.
abbrev pub mended_bytes : List ℕ → List Finding → List ℕ
mended_bytes bs xs = edited_bytes 0 (round_edits xs) bs

-- The file with the bytes bs reads as the tokens xs, and the one with the bytes cs as ys.
abbrev pub AreTokens : List ℕ → List ℕ → List Lexeme → List Lexeme → Type 0
AreTokens bs cs xs ys = ReadsFile (chars bs) xs × ReadsFile (chars cs) ys

-- The tokens that no edit touches are the same in a file with the bytes bs and the faults fs, and
-- with the bytes cs that the edits make of it.
unfoldable pub OthersStay : List ℕ → List Finding → List ℕ → Type 0
OthersStay bs fs cs = (xs ys : List Lexeme) × AreTokens bs cs xs ys
    × KeepsTokens (round_edits fs) (placed_tokens 0 xs) (placed_tokens 0 ys)

-- The mended ones of the faults fs are in string literals of the file with the bytes bs, and their
-- edits are in these or in the arguments behind them.
unfoldable pub StaysInCalls : List ℕ → List Finding → Type 0
StaysInCalls bs fs = (xs : List Lexeme) × ReadsFile (chars bs) xs
    × IsTrue (have_literals bs (placed_tokens 0 xs) (mended_faults 0 fs))

-- The mended ones of the faults fs are in n or more string literals of the file with the bytes bs.
unfoldable pub HasLiterals : List ℕ → List Finding → ℕ → Type 0
HasLiterals bs fs n = (xs : List Lexeme) × ReadsFile (chars bs) xs
    × (n ≤ literal_count (placed_tokens 0 xs) (mended_faults 0 fs))

-- They are not.
unfoldable pub LeavesCalls : List ℕ → List Finding → Type 0
LeavesCalls bs fs = (xs : List Lexeme) × ReadsFile (chars bs) xs
    × (IsTrue (have_literals bs (placed_tokens 0 xs) (mended_faults 0 fs)) → ⊥)

-- The faults that are mended in a round are gone: where one of them ended, none of the faults ys
-- after the round ends that could be mended.
abbrev pub AreGone : List Finding → List Finding → Type 0
AreGone xs ys = IsTrue (are_gone (moved_ends 0 0 (mended_faults 0 xs)) ys)

-- The file with the bytes cs lexes: all its tokens are known.
unfoldable pub Lexes : List ℕ → Type 0
Lexes cs = (ys : List Lexeme) × ReadsFile (chars cs) ys
    × IsTrue (list_all is_known (placed_tokens 0 ys))

-- Some token that no edit touches does not stay, or some token of the bytes cs is not known.
unfoldable pub OthersGo : List ℕ → List Finding → List ℕ → Type 0
OthersGo bs fs cs = (xs ys : List Lexeme) × AreTokens bs cs xs ys
    × (KeepsTokens (round_edits fs) (placed_tokens 0 xs) (placed_tokens 0 ys)
    × IsTrue (list_all is_known (placed_tokens 0 ys)) → ⊥)

-- In a round the file with the bytes bs and the report r becomes the bytes cs with the report q.
-- The faults of the round are those of r, and others of the same format strings or not. Those that
-- are mended have the ids ws, and are gone. The other faults stay, and at most one other comes for
-- each string literal in which a fault is mended: the compiler shows only the first fault of a
-- format string, so mending it can uncover another. Each edit is in the literal of its fault or
-- puts text into the arguments behind it. All tokens that no edit touches stay, and no others come
-- but where the edits are. The file lexes.
pub record IsRound (es : List Entry) (is_new : Bool) (bs : List ℕ) (r : Report) (cs : List ℕ)
    (q : Report) (ws : List (List ℕ)) : Type 0 where
  pub faults : List Finding
  pub are_all : HasFaults bs r.findings.items faults
  pub text : cs ≡ mended_bytes bs faults
  pub ids : ws ≡ map (λ x. x.id.now) (mended_faults 0 faults)
  pub report : IsReport es is_new cs q
  pub no_worse : IsNoWorse r q
  pub stay : FaultsStay faults q.findings.items
  pub few : HasLiterals bs faults (length stay.others)
  pub gone : AreGone faults q.findings.items
  pub calls : StaysInCalls bs faults
  pub tokens : OthersStay bs faults cs
  pub lexes : Lexes cs

-- No round follows on the file with the bytes bs and the report r with the findings fs: no fault is
-- to be mended, or the file with the edits is no text, or is worse, or lacks a fault that is not
-- mended, or has one that is, or more others than there are literals with a mended one, or an edit
-- is outside of its call, or the file has other tokens where no edit is, or does not lex.
abbrev pub IsLast : List Entry → Bool → List ℕ → Report → Type 0
IsLast es is_new bs r = let fs = r.findings.items in (mended_faults 0 fs ≡ [])
    ⊎ ((IsUtf8 (mended_bytes bs fs) → ⊥)
    ⊎ (((q : Report) × IsReport es is_new (mended_bytes bs fs) q
    × (IsNoWorse r q × (s : FaultsStay fs q.findings.items) × AreGone fs q.findings.items
    × HasLiterals bs fs (length s.others) → ⊥))
    ⊎ (OthersGo bs fs (mended_bytes bs fs) ⊎ LeavesCalls bs fs)))

-- The most rounds over a file with the bytes bs: 16, or as many as read 2 ^ 24 bytes together.
abbrev pub most_rounds : List ℕ → ℕ
most_rounds bs = max 16 (2 ^ 24 / suc (length bs))

-- The same after rounds in which faults with the ids ws are mended: at most n rounds, and fewer
-- only if no further one follows.
unfoldable pub AreRounds : List Entry → Bool → ℕ → List ℕ → Report → List ℕ → Report
    → List (List ℕ) → Type 0
AreRounds es is_new zero bs r cs q ws = (cs ≡ bs) × (q ≡ r) × (ws ≡ [])
AreRounds es is_new (suc n) bs r cs q ws =
    ((cs ≡ bs) × (q ≡ r) × (ws ≡ []) × IsLast es is_new bs r)
    ⊎ ((ds : List ℕ) × (p : Report) × (us vs : List (List ℕ)) × (ws ≡ us ++ vs)
    × IsRound es is_new bs r ds p us × AreRounds es is_new n ds p cs q vs)
