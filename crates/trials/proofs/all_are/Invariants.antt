use Rattle.std.proofs.Common.{◌≡◌, ◌≤◌, ◌&&◌, drop, length}
use Rattle.trials.specs.Buffers.{each}
use Rattle.trials.proofs.all_are.Given as goal

-- all bytes are this one where those so far are, and those behind them
abbrev pub invariant-loop-byte : goal.invariant-loop-byte
invariant-loop-byte l = (l.byte-index ≤ length l.bytes) × (each l.value l.bytes ≡ (l.so_far && each l.value (drop l.byte-index l.bytes)))
