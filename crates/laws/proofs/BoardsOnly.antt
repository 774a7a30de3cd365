-- No other boards than those of the rules are given as document 01's words say. Assumes nothing.
use Rattle.std.specs.Prelude.{◌≡◌, ◌↔◌, List, ℕ, zero, suc, ◌<◌, length}
use Rattle.std.proofs.Common.{sym, ◌∙◌, ⊎_elim, arith, ext_get_or}
use Rattle.std.proofs.Math.Decide.{dec_lt}
use Rattle.rules.specs.Basics.{at}
use Rattle.rules.specs.Needs.{Need, Gives, NeedsIn}
use Rattle.rules.specs.Program.{Kept}
use Rattle.rules.specs.Boards.{boards}
use Rattle.laws.specs.BoardWords.{Inherits, GivenBoards, dec-inherits, SameFirst, lowest-same, lowest-one}
use Rattle.laws.proofs.BoardLaws.{boards-given}

module _ (n : ℕ) (needs : List Need) (needs-in : NeedsIn n needs) (t : List ℕ) where
  module _ (b d : List ℕ) (f : GivenBoards n needs t b) (h : GivenBoards n needs t d) where
    -- the jobs before slot s have the same boards
    abbrev SameBefore : ℕ → Type 0
    SameBefore s = (i : ℕ) → i < n → at t i < s → at b i ≡ at d i

    -- then so have the jobs of slot s that have a giver in the slot before
    same-inherited : (s : ℕ) → SameBefore s → (i : ℕ) → at t i ≡ s → Inherits needs t i → at b i ≡ at d i
    same-inherited s r i e w =
        let g = w.0 in
        f.handed-on g i w.1 w.2 ∙ r g (needs-in g i w.1).0 (omega (arith, w.2, e)) ∙ sym (h.handed-on g i w.1 w.2)

    -- and the others, in rising number: those below x
    same-others : (s : ℕ) → SameBefore s → (x i : ℕ) → i < x → i < n → at t i ≡ s → at b i ≡ at d i
    same-others s r zero i k l e = absurd (omega arith)
    same-others s r (suc x) i k l e = go (same-others s r x) (dec-inherits needs t i)
      where
        go : ((j : ℕ) → j < x → j < n → at t j ≡ s → at b j ≡ at d j) → Dec (Inherits needs t i) → at b i ≡ at d i
        go rec (yes w) = same-inherited s r i e w
        go rec (no w) = lowest-one n needs t d i (at b i) (at d i) (lowest-same n needs t b d i (at b i) first (f.others i l w)) (h.others i l w)
          where
            first : SameFirst n needs t b d i
            first j m q p = ⊎_elim (same-inherited s r j (q ∙ e)) (λ c. rec j (omega (arith, c)) m (q ∙ e)) p

    -- so slot by slot all have
    same-before : (s : ℕ) → SameBefore s
    same-before zero i l k = absurd (omega arith)
    same-before (suc s) i l k = go (same-before s) (dec_lt (at t i) s)
      where
        go : SameBefore s → Dec (at t i < s) → at b i ≡ at d i
        go r (yes q) = r i l q
        go r (no q) = same-others s r (suc i) i (omega arith) l (omega arith)

  -- two lists of boards that are given as the words say are one
  pub boards-unique : (b d : List ℕ) → GivenBoards n needs t b → GivenBoards n needs t d → b ≡ d
  boards-unique b d f h = ext_get_or 0 b d (f.len ∙ sym h.len) (λ i l. same-before b d f h (suc (at t i)) i (omega (arith, f.len)) (omega arith))

  module _ (len : length t ≡ n) (kept : Kept (Gives needs) (at t)) where
    -- boards that are given as document 01's words say are those of the rules
    pub boards-only : (b : List ℕ) → GivenBoards n needs t b → b ≡ boards n needs t
    boards-only b f = boards-unique b (boards n needs t) f (boards-given n needs needs-in t len kept)

    -- so the two sentences say exactly what the rules compute: these boards are given so, and no others
    pub boards-exactly : (b : List ℕ) → GivenBoards n needs t b ↔ (b ≡ boards n needs t)
    boards-exactly b = (boards-only b, λ e. rw e (boards-given n needs needs-in t len kept))
