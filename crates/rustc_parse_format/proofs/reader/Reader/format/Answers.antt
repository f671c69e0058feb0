use Rattle.std.proofs.Common.{◌≡◌, ◌∙◌, ◌++◌, ℕ, Bool, Option, arith, rules, length, refl, ap}
use Rattle.std.proofs.lemmas.Bool.{false≢true}
use Rattle.rustc_parse_format.specs.Characters.{Text}
use Rattle.rustc_parse_format.specs.Counts.{precision, width}
use Rattle.rustc_parse_format.specs.Values.{number_after_precision}
use Rattle.rustc_parse_format.specs.Meaning.{format_of}
use Rattle.rustc_parse_format.specs.PartFaults.{precision_faults, type_faults, width_faults}
use Rattle.rustc_parse_format.specs.Views.{seen_spec}
use Rattle.rustc_parse_format.specs.Specification.{format_text, precision_at, type, type_at}
use Rattle.rustc_parse_format.specs.Specification.{width_at}
use Rattle.rustc_parse_format.specs.Tries.{precision_tries, width_tries}
use Rattle.rustc_parse_format.specs.Types.{Spec, Alignment, Sign, DebugHex, Count}
use Rattle.rustc_parse_format.specs.CallStates.{CallState}
use Rattle.rustc_parse_format.specs.World.{Place}
use Rattle.rustc_parse_format.proofs.Grammar.CleanWords.{none_left, none_right}
use Rattle.rustc_parse_format.proofs.Walking.Nexts.{on_ok}
use Rattle.rustc_parse_format.proofs.Grammar.PartPlaces.{from_precision-at, from_type-at}
use Rattle.rustc_parse_format.proofs.Grammar.PartPlaces.{from_width-at}
use Rattle.rustc_parse_format.proofs.Grammar.PartPlaces.{format_faults-at, format_tries-at}
use Rattle.rustc_parse_format.proofs.Readers.Parts.{read_three_tries}
use Rattle.rustc_parse_format.proofs.Grammar.Rests.{IsRest-le, align_at_rest, width_from_align}
use Rattle.rustc_parse_format.proofs.reader.Reader.format.Goals as goal

-- The parts of a specification, each written into the specification after the one before it, are
-- the whole specification.
written : (s f a i h w p y : Spec Place) (c : Option ℕ) (cs : Option Place) (al : Alignment)
    (sg : Option Sign) (alt pad : Bool) (dh : Option DebugHex) (wc pc : Count Place)
    (ws ps ts : Option Place) (u : Text)
    → f ≡ record s { fill = c; fill_span = cs } → a ≡ record f { align = al }
    → i ≡ record a { sign = sg } → h ≡ record i { alternate = alt }
    → w ≡ record h { zero_pad = pad; width = wc; width_span = ws }
    → p ≡ record w { precision = pc; precision_span = ps }
    → y ≡ record p { debug_hex = dh; ty = u; ty_span = ts }
    → y ≡ record {
      fill = c;
      fill_span = cs;
      align = al;
      sign = sg;
      alternate = alt;
      zero_pad = pad;
      debug_hex = dh;
      width = wc;
      width_span = ws;
      precision = pc;
      precision_span = ps;
      ty = u;
      ty_span = ts;
    }
written s f a i h w p y c cs al sg alt pad dh wc pc ws ps ts u ef ea ei eh ew ep ey =
    rw (ey, ep, ew, eh, ei, ea, ef) refl

pub width-requires-clause-furthest : goal.width-requires-clause-furthest
width-requires-clause-furthest c =
    let t = c.args.self.now.rest in
    let b = rw c.fill.ensures.state at c.alignment.ensures.state in
    let h = rw b at c.sign.ensures.state in
    let k = rw h at c.alternate.ensures.state in
    omega (
      arith,
      IsRest-le (align_at_rest t),
      IsRest-le (width_from_align t),
      ap (λ (s : CallState). length s.rest) k,
      ap (λ (s : CallState). s.rewinds.left) k,
      c.requires.furthest,
    )

pub returns-clause-value : goal.returns-clause-value
unfolding format_text format_of
returns-clause-value c =
    let t = c.args.self.now.rest in
    let a = c.fill.ensures in
    let b = rw a.state at c.alignment.ensures in
    let h = rw b.state at c.sign.ensures in
    let k = rw h.state at c.alternate.ensures in
    let w = rw k.state at c.in_ok-width.ensures in
    let p = rw w.reads.state at c.in_ok-precision.ensures in
    let y = rw p.reads.state at c.type_part.ensures in
    rw (from_width-at t, from_precision-at t, from_type-at t)
    (on_ok c.type_part.result y.value
    (written (seen_spec c.args.format.now) _ _ _ _ _ _ _ _ _ _ _ _ _ _ _ _ _ _ _ _
    a.value b.value h.value k.value w.value p.value))

pub returns-clause-reads : goal.returns-clause-reads
unfolding format_text
returns-clause-reads c =
    let s = c.args.self.now in
    let t = s.rest in
    let n = s.next in
    let m = number_after_precision n (precision (precision_at t)).0 in
    let ws = width_faults (width_at t) (width (width_at t)).0 in
    let ps = precision_faults (precision_at t) (precision (precision_at t)).0 in
    let ys = type_faults (type_at t) (type (type_at t)).0 in
    let us = width_tries (width_at t) (width (width_at t)).0 in
    let vs = precision_tries (precision_at t) (precision (precision_at t)).0 in
    let b = rw c.fill.ensures.state at c.alignment.ensures.state in
    let h = rw b at c.sign.ensures.state in
    let k = rw h at c.alternate.ensures.state in
    let w = rw k at c.in_ok-width.ensures.reads.state in
    let p = rw w at c.in_ok-precision.ensures.reads.state in
    let y = rw p at c.type_part.ensures.reads in
    rw (format_faults-at t, format_tries-at t)
    record {
      state = on_ok c.type_part.result y.state (λ e. e
          ∙ read_three_tries s (precision_at t) (type_at t)
          (type (type_at t)).1 n m m ws ps ys us vs);
      err = y.err;
      spare = λ none. y.spare (none_right (ws ++ ps) ys none);
    }

pub returns-in_err-width-clause-reads : goal.returns-in_err-width-clause-reads
unfolding format_text
returns-in_err-width-clause-reads c =
    let t = c.args.self.now.rest in
    let ws = width_faults (width_at t) (width (width_at t)).0 in
    let ps = precision_faults (precision_at t) (precision (precision_at t)).0 in
    let ys = type_faults (type_at t) (type (type_at t)).0 in
    let b = rw c.fill.ensures.state at c.alignment.ensures.state in
    let h = rw b at c.sign.ensures.state in
    let k = rw h at c.alternate.ensures.state in
    let w = rw k at c.in_err-width.ensures.reads in
    record {
      state = search rules;
      err = search rules;
      spare = rw (format_faults-at t) (λ none.
          absurd (false≢true (w.spare (none_left ws ps (none_left (ws ++ ps) ys none)))));
    }

pub returns-in_err-precision-clause-reads : goal.returns-in_err-precision-clause-reads
unfolding format_text
returns-in_err-precision-clause-reads c =
    let t = c.args.self.now.rest in
    let ws = width_faults (width_at t) (width (width_at t)).0 in
    let ps = precision_faults (precision_at t) (precision (precision_at t)).0 in
    let ys = type_faults (type_at t) (type (type_at t)).0 in
    let b = rw c.fill.ensures.state at c.alignment.ensures.state in
    let h = rw b at c.sign.ensures.state in
    let k = rw h at c.alternate.ensures.state in
    let w = rw k at c.in_ok-width.ensures.reads.state in
    let p = rw w at c.in_err-precision.ensures.reads in
    record {
      state = search rules;
      err = search rules;
      spare = rw (format_faults-at t) (λ none.
          absurd (false≢true (p.spare (none_right ws ps (none_left (ws ++ ps) ys none)))));
    }
