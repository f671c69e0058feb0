use Rattle.std.proofs.Common.{◌≡◌, ◌+◌, ◌≤◌, length, drop}
use Rattle.flat_reading.specs.Events.{position, states}
use Rattle.flat_reading.specs.Progress.{Adds, IsOnItsWay, IsUpTo}
use Rattle.flat_reading.proofs.walk.add_steps.Given as goal

abbrev pub invariant-loop-offset : goal.invariant-loop-offset
invariant-loop-offset l = record {
  ready : IsOnItsWay l.reading l.parser;
  read : l.offset ≡ position l.parser.input l.parser.rest;
  room : l.count + length l.parser.rest ≤ length l.fn.parser.rest;
  up_to : (
      IsUpTo l.reading.input.now l.fn.parser
      (states l.parser) l.parser l.count l.specs.count l.finders l.steps
      l.specs.records.now l.peeks
      );
  kept_steps : drop l.count l.steps ≡ drop l.count l.fn.steps;
  kept_peeks : drop l.count l.peeks ≡ drop l.count l.fn.peeks;
  specs : Adds l.specs.count l.fn.specs l.specs;
}

abbrev pub decreases-loop-offset : goal.decreases-loop-offset
decreases-loop-offset l = length l.parser.rest
