use Rattle.std.proofs.Common.{◌≡◌, ◌++◌, ◌-◌, length, take}
use Rattle.needsets.specs.Starts.{digits}
use Rattle.needsets.proofs.starts.put_starts.Given as goal

abbrev pub invariant-loop-start : goal.invariant-loop-start
invariant-loop-start l = (length l.starts ≡ 4) × (take l.start-index l.starts ++ digits l.jobs (4 - l.start-index) l.rest ≡ digits l.jobs 4 l.index)
