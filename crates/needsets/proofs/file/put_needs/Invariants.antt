use Prim.Native.Nat.{◌*◌}
use Rattle.laws.specs.Writing.{WrittenSoFar}
use Rattle.needsets.specs.Files.{place_bytes}
use Rattle.needsets.proofs.file.put_needs.Given as goal

abbrev pub invariant-loop-place : goal.invariant-loop-place
invariant-loop-place l = WrittenSoFar (place_bytes l.jobs l.number) (l.jobs * l.jobs) l.first l.initial.file l.place l.at l.file
