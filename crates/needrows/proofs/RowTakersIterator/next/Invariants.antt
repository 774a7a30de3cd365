use Rattle.std.proofs.Common.{◌≡◌, ◌-◌}
use Rattle.needrows.specs.Rows.{left_at}
use Rattle.needrows.proofs.RowTakersIterator.next.Given as goal

-- as much is to come as at first
abbrev pub invariant-loop-member : goal.invariant-loop-member
invariant-loop-member l =
    let s = l.self in
    let t = l.initial.self in
    left_at s.rows.now s.giver s.last s.at s.here ≡ left_at t.rows.now t.giver t.last t.at t.here

-- the bytes that are left
abbrev pub decreases-loop-member : goal.decreases-loop-member
decreases-loop-member l = l.self.last - l.self.at
