-- A value of the right length is long enough to be read. Assumes nothing.
use Rattle.std.specs.Prelude.{◌≡◌, ℕ, ◌≤◌, T}
use Rattle.rules.specs.JobFile.{field_row, length_ok}
use Rattle.laws.specs.Tests.{tests}

pub value-long : (t tag k : ℕ) → tag ≡ t → T (length_ok tag k) → (field_row t).least ≤ k
unfolding length_ok
value-long t tag k e h = rw (← e) (simp tests at h).0
