use Rattle.std.proofs.Common.{◌≡◌, ◌+◌, ◌≤◌, take}
use Rattle.std.specs.Vec.{vec_len, vec_capacity}
use Rattle.rustc_parse_format.proofs.error_list.widen.Given as goal

abbrev pub invariant-loop : goal.invariant-loop
invariant-loop l =
    (take (vec_len l.fn.entries) l.entries.items ≡ l.fn.entries.items)
    × (vec_len l.entries ≡ vec_len l.fn.entries + l.counter)
    × (vec_len l.fn.entries + l.count ≤ vec_capacity l.entries)
