use Rattle.std.proofs.Common.{◌≡◌, ◌∙◌, [], ◌∷◌, Some, ap, chars, map, refl, sym}
use Rattle.std.specs.Prelude.{option_map}
use Rattle.rustc_parse_format.specs.Views.{pair}
use Rattle.rustc_parse_format.specs.CallStates.{CallState, Remainder, call_state}
use Rattle.rustc_parse_format.specs.Characters.{Text, after_first, first_passes, is_id_start}
use Rattle.rustc_parse_format.specs.PartFaults.{position_faults}
use Rattle.rustc_parse_format.specs.Placeholder.{position}
use Rattle.rustc_parse_format.specs.Syntax.{PositionText, Word}
use Rattle.rustc_parse_format.specs.Types.{Named}
use Rattle.rustc_parse_format.specs.Values.{given_position}
use Rattle.rustc_parse_format.proofs.Readers.RawWords.{r-faultless, r-position, r-whole}
use Rattle.rustc_parse_format.proofs.Readers.Parts.{read_nothing}
use Rattle.rustc_parse_format.proofs.reader.Reader.prefixed_word.Goals as goal
use Rattle.rustc_parse_format.proofs.reader.Reader.prefixed_word.Goals.{After-front-1}

left : (c : After-front-1) → ◌≡◌ {A = Text} c.skip_char.new.self.rest
    (after_first c.args.self.now.rest)
left c = ap (λ (u : Remainder). u.rest) c.skip_char.ensures.rest ∙ ap
    (λ (m : CallState). after_first m.rest) c.self.view_is

-- The `r`, and the rest after it.
whole : (c : After-front-1) → ◌≡◌ {A = Text} (chars c.checkpoint-front.result.rest.text.now)
    (114 ∷ c.skip_char.new.self.rest)
whole c =
    sym (ap (λ (u : Remainder). u.rest) c.checkpoint-front.ensures.at)
    ∙ (ap (λ (m : CallState). m.rest) c.self.view_is ∙
    (r-whole c.args.self.now.rest c.requires ∙ ap (λ (u : Text). 114 ∷ u) (sym (left c))))

-- the word is that
alone : (c : After-front-1) → position c.args.self.now.rest ≡
    (Word (114 ∷ []), after_first c.args.self.now.rest)
alone c = r-position c.args.self.now.rest c.requires
    (sym (c.if-not-is_word_ahead.ensures ∙ ap
    (λ (u : Text). first_passes is_id_start (after_first u)) (left c)))

pub text_since-requires : goal.text_since-requires
text_since-requires c = (114 ∷ [], whole c)

pub returns-then-not-is_word_ahead-clause-value :
    goal.returns-then-not-is_word_ahead-clause-value
returns-then-not-is_word_ahead-clause-value c =
    ap (λ w. Some (Named w)) (c.text_since.ensures _ (whole c.before.before))
    ∙ ap (λ (x : PositionText × Text). given_position x.0) (sym (alone c.before.before))

pub returns-then-not-is_word_ahead-clause-reads :
    goal.returns-then-not-is_word_ahead-clause-reads
returns-then-not-is_word_ahead-clause-reads c =
    let s = c.args.self.now in
    let r = c.self.inside in
    let here = alone c.before.before in
    let moved = ap (λ (u : Remainder). record (call_state u r.curarg r.line_start) {
      faults = r.faults;
      lines = map pair r.lines.items;
      closed_place = option_map pair r.closed_place;
    }) c.skip_char.ensures.rest ∙ ap
    (λ (m : CallState). record m { rest = after_first m.rest }) c.self.view_is in
    record {
      state = moved ∙ read_nothing (record s { rest = after_first s.rest }) (position s.rest).1
          (position_faults s.rest (position s.rest).0)
          (ap (λ (x : PositionText × Text). x.1) here)
          (ap (λ (x : PositionText × Text). position_faults s.rest x.0) here
          ∙ r-faultless s.rest c.requires);
      err = tt;
      spare = λ none. refl;
    }
