-- A log of SARIF 2.1.0 (OASIS): one run of the program, with its rules and its results.
use Rattle.std.specs.Prelude.{ℕ, Bool, true, List, ◌++◌, codes}
use Rattle.serde_json.specs.Data.{Data, boolean, string, array, object, Items, no_items, item}
use Rattle.serde_json.specs.Data.{Members, no_members, member}
use Rattle.fault_rules.specs.declared.rules.Rule.{Rule}
use Rattle.fault_rules.specs.Rules.{explanation_text}
use Rattle.emit.specs.declared.message.Message.{Message}
use Rattle.emit.specs.declared.message.Span.{Span}
use Rattle.emit.specs.Escapes.{uri}
use Rattle.emit.specs.Texts.{array_text, items_of, number_json, object_text}
use Rattle.emit.specs.Words.{level_name}

-- A message of SARIF that is plain text.
abbrev pub plain_message : List ℕ → Data
plain_message t = object (member (codes "text") (string t) no_members)

-- A region. Its end is the place after its last character.
abbrev pub region : Span → Data
region s = object (member (codes "startLine") (number_json s.start.line)
    (member (codes "startColumn") (number_json s.start.column)
    (member (codes "endLine") (number_json s.end.line)
    (member (codes "endColumn") (number_json s.end.column) no_members))))

-- A file.
abbrev pub artifact : List ℕ → Data
artifact path = object (member (codes "uri") (string (uri path)) no_members)

-- A range of a file.
abbrev pub physical_location : List ℕ → Span → Data
physical_location path s = object (member (codes "artifactLocation") (artifact path)
    (member (codes "region") (region s) no_members))

-- A range of a file, as a location.
abbrev pub location : List ℕ → Span → Data
location path s = object (member (codes "physicalLocation") (physical_location path s) no_members)

-- A result: a message.
abbrev pub result_json : Message → Data
result_json m = object (member (codes "ruleId") (string m.id.now)
    (member (codes "level") (string (level_name m.level))
    (member (codes "message") (plain_message m.title.now)
    (member (codes "locations") (array (item (location m.path.now m.primary) no_items))
    no_members))))

-- A rule.
abbrev pub rule_json : Rule → Data
rule_json r = object (member (codes "id") (string r.id.now)
    (member (codes "shortDescription") (plain_message r.summary.now)
    (member (codes "fullDescription") (plain_message r.explanation.now)
    (member (codes "help") (plain_message (explanation_text r)) no_members))))

-- The program of this version with its rules.
abbrev pub driver : List ℕ → List Rule → Data
driver version rs = object (member (codes "name") (string (codes "formatlint"))
    (member (codes "version") (string version)
    (member (codes "rules") (array (items_of rule_json rs)) no_members)))

-- The program as a tool.
abbrev pub tool : List ℕ → List Rule → Data
tool version rs = object (member (codes "driver") (driver version rs) no_members)

-- An invocation: whether the program could read all files.
abbrev pub invocation : Bool → Data
invocation whole = object (member (codes "executionSuccessful") (boolean whole) no_members)

-- The members of a run after its results: its only invocation.
abbrev pub run_end : Bool → Members
run_end whole = member (codes "invocations") (array (item (invocation whole) no_items)) no_members

-- A run of the program. Columns count characters.
abbrev pub run_json : List ℕ → List Rule → Items → Bool → Data
run_json version rs results whole = object (member (codes "tool") (tool version rs)
    (member (codes "columnKind") (string (codes "unicodeCodePoints"))
    (member (codes "results") (array results) (run_end whole))))

-- A log.
abbrev pub log_json : List ℕ → List Rule → Items → Bool → Data
log_json version rs results whole = object (member (codes "$schema")
    (string (codes "https://json.schemastore.org/sarif-2.1.0.json"))
    (member (codes "version") (string (codes "2.1.0"))
    (member (codes "runs") (array (item (run_json version rs results whole) no_items))
    no_members)))

-- The text of a log after its results.
abbrev pub log_end : Bool → List ℕ
log_end whole = object_text true (run_end whole)
    ++ (array_text true no_items ++ object_text true no_members)
