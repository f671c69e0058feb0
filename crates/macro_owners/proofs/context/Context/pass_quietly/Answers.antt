use Rattle.std.proofs.Common.{◌≡◌, ap, refl, subst, sym, true, ◌∙◌}
use Rattle.rust_trees.specs.Leaves.{leaf, side}
use Rattle.macro_owners.specs.Contexts.{depth_by, goes_on, path_after, seen}
use Rattle.macro_owners.specs.Quiet.{is_quiet}
use Rattle.macro_owners.proofs.Quieting.{followed, passed_by, passes, stays-quiet}
use Rattle.macro_owners.proofs.context.Context.pass_quietly.Goals as goal

pub returns-clause-after : goal.returns-clause-after
returns-clause-after c =
    ap (passed_by (leaf c.args.token))
    (c.follow_path.ensures ∙ ap (followed (leaf c.args.token)) c.count_delimiter.ensures)
    ∙ passes (seen c.args.self.now) (leaf c.args.token) _ _ _ c.requires.quiet c.requires.plain
    refl refl refl

pub returns-clause-quiet : goal.returns-clause-quiet
returns-clause-quiet c =
    subst (λ m. is_quiet (passed_by (leaf c.args.token) m) ≡ true)
    (sym (c.follow_path.ensures ∙ ap (followed (leaf c.args.token)) c.count_delimiter.ensures))
    (stays-quiet (seen c.args.self.now) (leaf c.args.token)
    (path_after (seen c.args.self.now) (leaf c.args.token))
    (goes_on (seen c.args.self.now) (leaf c.args.token))
    (depth_by (seen c.args.self.now) (side (leaf c.args.token)))
    c.requires.quiet c.requires.plain)
