-- How many jobs a slot can get: the forced ones, and one for each job of the slot before that has tied takers. Where it takes fewer,
-- its maximal sets are those with just as many as it takes. Assumes nothing.
-- Its definitions: specs/Room.antt.
use Rattle.std.specs.Prelude.{◌≡◌, refl, ◌⊎◌, ◌↔◌, ℕ, ◌+◌, ◌≤◌, ◌<◌, length}
use Rattle.std.proofs.Common.{sym, ◌∙◌, inl, inr, ⊎_elim, arith, length-append}
use mathlib.Core.List.Memᴰ
use mathlib.Core.List.{List, ◌∷◌, ◌++◌, Memᴰ}
use Rattle.std.proofs.Math.Decide.{dec_lt}
use Rattle.rules.specs.Basics.{at, Distinct}
use Rattle.rules.specs.Needs.{Gives}
use Rattle.laws.specs.Lists.{dec_mem}
use Rattle.laws.specs.Counting.{pigeonhole, pigeonhole-by, distinct_append}
use Rattle.dominance.specs.States.{Instance, AtMost, Legal}
use Rattle.dominance.specs.Tests.{gives-dec}
use Rattle.dominance.specs.Maximal.{Maximal}
use Rattle.dominance.specs.Exact.{Forced, Tied, dec_any}
use Rattle.dominance.proofs.Exact.{legal, allow, forced-or-tied, forced-legal, tied-legal}
use Rattle.dominance.specs.Room.{Tying}

module _ (I : Instance) (s : ℕ) (t F G : List ℕ) (F-is : (x : ℕ) → Memᴰ x F ↔ Forced I s t x) (G-is : (g : ℕ) → Memᴰ g G
    ↔ Tying I s t g) (F-once : Distinct F) (G-once : Distinct G) where
  -- job y of the slot goes with z: with itself where it is forced, with its giver in the slot before where it is tied
  abbrev With : ℕ → ℕ → Type 0
  With z y = (Forced I s t z × (z ≡ y)) ⊎ (Tied I s t y × Gives I.needs z y × (at t z + 1 ≡ s))

  -- a set that the needs let run has no more jobs than these
  legal-few : (S : List ℕ) → Legal I s t S → AtMost (length F + length G) S
  legal-few S ok R once wi =
      omega (
        arith,
        length-append F G,
        pigeonhole-by (λ x z. With z x) R (F ++ G) once (λ x m. goes x (wi x m) (forced-or-tied I s t x (ok.candidate x (wi x m)) (ok.able x (wi x m))))
            (λ x y z m k. one x y z (wi x m) (wi y k)),
      )
    where
      goes : (x : ℕ) → Memᴰ x S → Forced I s t x ⊎ Tied I s t x → (z : ℕ) × Memᴰ z (F ++ G) × With z x
      goes x m (inl f) = (x, Memᴰ.append_left G ((F-is x).1 f), inl (f, refl))
      goes x m (inr d) =
          let g = d.giver.0 in (
            g,
            Memᴰ.append_right F ((G-is g).1 record { in-n = (I.needs-in g x d.giver.1).0; before = d.giver.2; taker = (x, d.giver.1, d) }),
            inr (d, d.giver.1, d.giver.2),
          )

      one : (x y z : ℕ) → Memᴰ x S → Memᴰ y S → With z x → With z y → x ≡ y
      one x y z m k (inl a) (inl b) = sym a.1 ∙ b.1
      one x y z m k (inl a) (inr b) = absurd (omega (arith, a.0.able.free, b.2))
      one x y z m k (inr a) (inl b) = absurd (omega (arith, b.0.able.free, a.2))
      one x y z m k (inr a) (inr b) = ok.give-one z x y a.1 b.1 m k a.2

  -- a list that has the forced jobs and serves each tying job has no fewer
  pub parts-fit : (R : List ℕ) → ((x : ℕ) → Forced I s t x → Memᴰ x R)
      → ((g : ℕ) → Tying I s t g → (k : ℕ) × Gives I.needs g k × Tied I s t k × Memᴰ k R) → length F + length G ≤ length R
  parts-fit R forced served =
      omega (
        arith,
        length-append F G,
        pigeonhole-by With (F ++ G) R (distinct_append F G F-once G-once apart) (λ z m. goes z (Memᴰ.append_cases F m)) (λ y z x _ _. one y z x),
      )
    where
      apart : (z : ℕ) → Memᴰ z F → Memᴰ z G → ⊥
      apart z m k = omega (arith, ((F-is z).0 m).able.free, ((G-is z).0 k).before)

      goes : (z : ℕ) → Memᴰ z F ⊎ Memᴰ z G → (y : ℕ) × Memᴰ y R × With z y
      goes z (inl m) = let f = (F-is z).0 m in (z, forced z f, inl (f, refl))
      goes z (inr m) = let y = (G-is z).0 m in let w = served z y in (w.0, w.3, inr (w.2, w.1, y.before))

      one : (y z x : ℕ) → With y x → With z x → y ≡ z
      one y z x (inl a) (inl b) = a.1 ∙ sym b.1
      one y z x (inl a) (inr b) = absurd (a.0.alone (rw a.1 (z, b.1, b.2)))
      one y z x (inr a) (inl b) = absurd (b.0.alone (rw b.1 (y, a.1, a.2)))
      one y z x (inr a) (inr b) = a.0.able.take-one y z a.1 b.1 a.2 b.2

  -- where the slot takes as many, it takes all that the needs let run
  pub has_room : length F + length G ≤ I.cap → (S : List ℕ) → Legal I s t S → AtMost I.cap S
  has_room h S ok R once wi = omega (arith, legal-few S ok R once wi)

  -- with as many jobs as the slot takes a set is maximal
  pub full-set : (S : List ℕ) → Legal I s t S → Distinct S → length S ≡ I.cap → Maximal I s t S
  full-set S ok once e = record {
    allowed = allow I s t S ok (λ R d wi. omega (arith, pigeonhole R S d wi));
    no_more = λ x out more. omega (arith, more.few (x ∷ S) (out, once) (λ j m. m));
  }

  -- and where it takes fewer, no other set is
  pub full-only : I.cap < length F + length G → (S : List ℕ) → Maximal I s t S → (R : List ℕ) → Distinct R → ((x : ℕ) → Memᴰ x R ↔ Memᴰ x S)
      → length R ≡ I.cap
  full-only h S mx R once R-is = go (dec_lt (length R) I.cap)
    where
      go : Dec (length R < I.cap) → length R ≡ I.cap
      go (no l) = omega (arith, mx.allowed.few R once (λ x. (R-is x).0))
      go (yes l) = absurd (omega (
        arith,
        parts-fit R (λ x f. (R-is x).1 (in-S x (forced-legal I s t S (legal I s t S mx.allowed) x f) (dec_mem x S)))
            (λ g y. served g y (dec_any (gives-dec I.needs g) R)),
      ))
        where
          -- one more is no more than the slot takes
          room : (x : ℕ) → AtMost I.cap (x ∷ S)
          room x Q d wi = omega (
            arith,
            pigeonhole Q (x ∷ R) d
                (λ z m. ⊎_elim (λ e. Memᴰ.head e) (λ k. Memᴰ.tail ((R-is z).1 k)) (Memᴰ.cases_cons (wi z m))),
          )

          in-S : (x : ℕ) → Legal I s t (x ∷ S) → Dec (Memᴰ x S) → Memᴰ x S
          in-S x ok (yes m) = m
          in-S x ok (no m) = absurd (mx.no_more x m (allow I s t (x ∷ S) ok (room x)))

          served : (g : ℕ) → Tying I s t g → Dec ((k : ℕ) × Gives I.needs g k × Memᴰ k R) → (k : ℕ) × Gives I.needs g k × Tied I s t k
              × Memᴰ k R
          served g y (yes w) = let m = (R-is w.0).0 w.2 in
              (w.0, w.1, record { candidate = mx.allowed.candidate w.0 m; able = mx.allowed.able w.0 m; giver = (g, w.1, y.before) }, w.2)
          served g y (no w) = absurd (w (
            k,
            p,
            (R-is k).1 (in-S k (tied-legal I s t S (legal I s t S mx.allowed) k d (λ j b m. w (j, b, (R-is j).1 m))) (dec_mem k S)),
          ))
            where
              k : ℕ
              k = y.taker.0

              p : Gives I.needs g k
              p = y.taker.1

              d : Tied I s t k
              d = record { candidate = y.taker.2.candidate; able = y.taker.2.able; giver = (g, p, y.before) }
