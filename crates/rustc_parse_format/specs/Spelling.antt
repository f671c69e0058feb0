-- The parts of a written text: the spelling of a part, whether it is well formed, and the texts
-- that may follow it. A part that may be left out is spelled as the empty text, and only where it
-- does not begin. A run, an integer or a word ends where no further character belongs to it.
use Rattle.std.specs.Prelude.{◌≡◌, ℕ, Bool, true, false, not, ◌&&◌, ◌||◌, ◌++◌, IsTrue, List, []}
use Rattle.std.specs.Prelude.{◌∷◌}
use Rattle.std.specs.List.{list_all}
use Rattle.std.specs.Char.{is_ascii_digit}
use Rattle.rustc_parse_format.specs.Characters.{Text, is_id_start, is_id_continue, first_passes}

pub record Part : Type 0 where
  -- The text of the part as it is written.
  pub spelling : Text
  -- The part is well formed.
  pub is_formed : Bool
  -- The part may be followed by this text.
  pub may_precede : Text → Bool

-- The text t is the part p followed by r: p is well formed, and r may follow it.
pub record IsPart (t : Text) (p : Part) (r : Text) : Type 0 where
  pub whole : t ≡ p.spelling ++ r
  pub formed : IsTrue p.is_formed
  pub ends : IsTrue (p.may_precede r)

-- The text u, followed by a text that passes the test p.
abbrev pub part_before : Text → (Text → Bool) → Part
part_before u p = record { spelling = u; is_formed = true; may_precede = p }

-- The text u, followed by a text that does not pass the test p.
abbrev pub part_unless : Text → (Text → Bool) → Part
part_unless u p = part_before u (λ r. not (p r))

-- The text u, followed by anything.
abbrev pub fixed_part : Text → Part
fixed_part u = part_before u (λ r. true)

-- A part that is left out, where the text that follows does not pass the test p.
abbrev pub absent_part : (Text → Bool) → Part
absent_part p = part_unless [] p

-- A part that is never well formed.
abbrev pub never_part : Part
never_part = record { spelling = []; is_formed = false; may_precede = λ r. true }

-- Characters that pass the test p, and all of them: the next character does not pass.
abbrev pub run : (ℕ → Bool) → Text → Part
run p u = record {
  spelling = u;
  is_formed = list_all p u;
  may_precede = λ r. not (first_passes p r);
}

-- A run of at least one character.
abbrev pub some_run : (ℕ → Bool) → Text → Part
some_run p u = record (run p u) { is_formed = first_passes p u && list_all p u }

-- A character that passes the test p, written twice.
abbrev pub doubled_part : (ℕ → Bool) → ℕ → Part
doubled_part p c = record { spelling = c ∷ c ∷ []; is_formed = p c; may_precede = λ r. true }

-- One or more decimal digits, and all of them.
abbrev pub integer : Text → Part
integer ds = some_run is_ascii_digit ds

-- The text is a word: a character that may begin a word, and then characters that may continue it.
abbrev pub is_word : Text → Bool
is_word [] = false
is_word (c ∷ w) = is_id_start c && list_all is_id_continue w

-- A word, and all of it: the next character does not continue it.
abbrev pub identifier : Text → Part
identifier w = record {
  spelling = w;
  is_formed = is_word w;
  may_precede = λ r. not (first_passes is_id_continue r);
}

-- A word that is followed by a text that passes the test p.
abbrev pub identifier_before : (Text → Bool) → Text → Part
identifier_before p w = record { spelling = w; is_formed = is_word w; may_precede = p }

-- A word, or nothing where no word begins.
abbrev pub optional_identifier : Text → Part
optional_identifier [] = absent_part (first_passes is_id_start)
optional_identifier (c ∷ w) = identifier (c ∷ w)

-- Some prefix of the text, with the rest after it, passes the test p.
abbrev pub some_front : Text → (Text → Text → Bool) → Bool
some_front [] p = p [] []
some_front (c ∷ t) p = p [] (c ∷ t) || some_front t (λ u r. p (c ∷ u) r)

-- The text begins with a well-formed part of this kind, followed by a text that may follow it. The
-- kind makes a part of each text, which has to be spelled as that text.
abbrev pub begins_with_part : (Text → Part) → Text → Bool
begins_with_part part t = some_front t (λ u r. (part u).is_formed && (part u).may_precede r)

-- Parts one after the other. Each may be followed by the parts after it and the text after them.
abbrev pub row : List Part → Part
row [] = fixed_part []
row (p ∷ ps) = record {
  spelling = p.spelling ++ (row ps).spelling;
  is_formed = p.is_formed && (row ps).is_formed;
  may_precede = λ r. p.may_precede ((row ps).spelling ++ r) && (row ps).may_precede r;
}
