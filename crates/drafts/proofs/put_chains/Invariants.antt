use Rattle.std.proofs.Common.{◌≡◌, ◌≤◌, ◌+◌, ◌*◌, ◌-◌}
use Rattle.drafts.proofs.put_chains.Given as goal

abbrev pub invariant-loop-taker : goal.invariant-loop-taker
invariant-loop-taker l = (l.taker ≤ 1 + l.chains + (l.jobs - l.chains)) × (l.at ≡ l.from + 5 * (l.taker - (1 + l.chains)) + 2 * (l.taker - 256))
