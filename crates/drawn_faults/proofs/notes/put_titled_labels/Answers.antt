use Rattle.std.proofs.Common.{◌++◌, ◌∙◌, ap, append_assoc, codes, map, string_bytes}
use Rattle.drawn_faults.specs.Diagnostics.{first_spot, labels_rows, titled_labels}
use Rattle.drawn_faults.specs.Diagnostics.{arrow}
use Rattle.drawn_lines.specs.Glyphs.{glyph_bytes}
use Rattle.drawn_lines.specs.Frames.{seen_frame}
use Rattle.drawn_labels.specs.Labels.{seen_label}
use Rattle.drawn_lines.specs.Painting.{closing, opening, painted_text}
use Rattle.drawn_lines.specs.Lines.{parting}
use Rattle.drawn_lines.specs.declared.paint.Style.TheVariants.{Bold, Primary}
use Rattle.drawn_lines.proofs.Joining.{join6, some-painted}
use Rattle.drawn_faults.proofs.notes.put_titled_labels.Goals as goal

pub returns : goal.returns
unfolding titled_labels
returns c =
    let f = seen_frame c.args.frame.now in
    let ls = map seen_label c.args.labels.now in
    let o = string_bytes c.args.out.now in
    let e = painted_text f.gutter.palette Primary c.args.word.now in
    let a = opening c.args.palette Bold in
    let s = codes ": " in
    let g = glyph_bytes c.args.title.now in
    let z = closing c.args.palette in
    let l = codes "\n" in
    let r = arrow f (first_spot ls) in
    let q = parting f in
    let m = labels_rows f ls in
    rw (
      c.in_ok-put_labels_rows.ensures,
      c.in_ok-put_parting.ensures,
      c.in_ok-put_arrow.ensures,
      c.first_spot.ensures.value,
      c.in_ok-push_str-2.ensures.bytes,
      c.in_ok-put_closing.ensures,
      c.in_ok-put_glyphs.ensures.drawn,
      c.in_ok-push_str.ensures.bytes,
      c.in_ok-put_opening.ensures,
      c.in_ok-put_painted_text.ensures,
    )
    (ap (λ t. ((((t ++ z) ++ l) ++ r) ++ q) ++ m) (append_assoc ((o ++ e) ++ a) s g)
    ∙ ap (λ t. (((t ++ l) ++ r) ++ q) ++ m) (append_assoc ((o ++ e) ++ a) (s ++ g) z
    ∙ append_assoc (o ++ e) a ((s ++ g) ++ z))
    ∙ join6 o e (a ++ ((s ++ g) ++ z)) l r q m
    ∙ ap (λ t. o ++ (e ++ (t ++ (l ++ (r ++ (q ++ m))))))
    (some-painted c.args.palette Bold 58 (codes " " ++ g)))
