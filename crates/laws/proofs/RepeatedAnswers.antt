-- A need given twice (document 02, request 6): the answers for the file, and for the file with a comment in the place of the later need. Assumes nothing.
use Rattle.std.specs.Prelude.{◌≡◌, ℕ, ◌<◌, length}
use mathlib.Core.List.{List}
use Rattle.rules.specs.Numbers.{Bytes}
use Rattle.rules.specs.Fields.{value}
use Rattle.laws.specs.Comments.{SameAnswers, read-same-answers}
use Rattle.laws.specs.RepeatedNeeds.{NeedField, giver_at, taker_at}
use Rattle.laws.proofs.RepeatedNeeds.{commented, repeat_read}

-- a file with needs at the offsets a and b that say the same pair, and a comment as long as the later
module _ (bs : List ℕ) (bytes : Bytes bs) (a b : ℕ) (first : NeedField bs a) (again : NeedField bs b) (later : a < b)
    (giver : giver_at bs b ≡ giver_at bs a) (taker : taker_at bs b ≡ taker_at bs a)
    (w : List ℕ) (as_long : length w ≡ length (value bs b)) where
  -- and gets the same answers, byte for byte
  pub repeat-same : SameAnswers bs (commented bs bytes a b first again later giver taker w as_long)
  repeat-same =
      read-same-answers bs (commented bs bytes a b first again later giver taker w as_long)
      (repeat_read bs bytes a b first again later giver taker w as_long)
