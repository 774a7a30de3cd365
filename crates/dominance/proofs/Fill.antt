-- Dominance: a start list is no better than one whose slot s takes no further job. Assumes nothing.
-- Its definitions: specs/Fill.antt.
use Rattle.std.specs.Prelude.{◌≡◌, refl, ◌⊎◌, ℕ, ◌+◌, ◌<◌, length, set}
use Rattle.std.proofs.Common.{inl, inr, ⊎_elim, arith}
use mathlib.Core.List.Memᴰ
use mathlib.Core.List.{List, [], ◌∷◌, Memᴰ}
use Rattle.rules.specs.Basics.{at}
use Rattle.laws.specs.Preference.{Weak-trans}
use Rattle.dominance.specs.Exchange.{May, Moved, here, stays, moved, earlier-preferred}
use Rattle.dominance.specs.Fill.{Full, Grown, Closed, Filled}

grown-trans : (s : ℕ) (u v w : List ℕ) (i : ℕ) → Grown s u v i → Grown s v w i → Grown s u w i
grown-trans s u v w i (inl e) (inl f) = inl (omega arith)
grown-trans s u v w i (inl e) (inr f) = inr (omega arith)
grown-trans s u v w i (inr e) (inl f) = inr (omega arith)
grown-trans s u v w i (inr e) (inr f) = absurd (omega arith)

-- what may join the slot when it has more jobs may join it when it has fewer: one pass over the jobs is enough
may-less : (N : ℕ → ℕ → Type 0) (s : ℕ) (u v : List ℕ) → ((i : ℕ) → Grown s u v i) → (x : ℕ) → May N s v x → May N s u x
may-less N s u v gr x m = record {
  able = record {
    free = omega (arith, free (gr x));
    ready = λ g a. ready g (m.able.ready g a) (gr g);
    take-one = λ i j a b p q. m.able.take-one i j a b (last i p (gr i)) (last j q (gr j));
  };
  later = free (gr x);
  give-one = λ g k a b p q. m.give-one g k a b (last g p (gr g)) (now k q (gr k));
}
  where
    free : Grown s u v x → s < at u x
    free (inl e) = omega (arith, m.later)
    free (inr e) = e.1

    ready : (g : ℕ) → at v g < s → Grown s u v g → at u g < s
    ready g h (inl e) = omega arith
    ready g h (inr e) = absurd (omega arith)

    last : (i : ℕ) → at u i + 1 ≡ s → Grown s u v i → at v i + 1 ≡ s
    last i p (inl e) = omega arith
    last i p (inr e) = absurd (omega arith)

    now : (i : ℕ) → at u i ≡ s → Grown s u v i → at v i ≡ s
    now i p (inl e) = omega arith
    now i p (inr e) = e.0

module _ (n : ℕ) (N : ℕ → ℕ → Type 0) (s : ℕ) (family Room : List ℕ → Type 0) where
  pub fill : (xs : List ℕ) → Closed n N s xs family Room → (u : List ℕ) → family u → Filled n N s xs family Room u
  fill [] c u g = record { list = u; good = g; weak = inl refl; grown = λ i. inl refl; full = inr (λ j m. absurd (Memᴰ.not-nil m)) }
  fill (x ∷ xs) c u g = go (c.room-dec u) (c.may-dec u x) (fill xs rest)
    where
      rest : Closed n N s xs family Room
      rest = record {
        len = c.len;
        in-n = λ j m. c.in-n j (Memᴰ.tail m);
        move = λ v j m. c.move v j (Memᴰ.tail m);
        room-dec = c.room-dec;
        may-dec = c.may-dec;
      }

      x-in : x < n
      x-in = c.in-n x (Memᴰ.head refl)

      len : length u ≡ n
      len = c.len u g

      full : (v : List ℕ) → ((Room v → ⊥) ⊎ Full N s xs v) → (May N s v x → ⊥) → (Room v → ⊥) ⊎ Full N s (x ∷ xs) v
      full v (inl r) h = inl r
      full v (inr f) h = inr (λ j m y. ⊎_elim (λ e. h (rw e at y)) (λ w. f j w y) (Memᴰ.cases_cons m))

      go : Dec (Room u) → Dec (May N s u x) → ((v : List ℕ) → family v → Filled n N s xs family Room v) → Filled n N s (x ∷ xs) family Room u
      go (no l) d r = record { list = u; good = g; weak = inl refl; grown = λ i. inl refl; full = inl l }
      go (yes l) (no k) r =
          let f = r u g in
          record {
            list = f.list;
            good = f.good;
            weak = f.weak;
            grown = f.grown;
            full = full f.list f.full
                (λ y. k (may-less N s u f.list f.grown x y));
          }
      go (yes l) (yes y) r =
          let f = r (set u x s) (c.move u x (Memᴰ.head refl) g l y) in
          record {
            list = f.list;
            good = f.good;
            weak = Weak-trans n f.list (set u x s) u f.weak (inr (earlier-preferred n u x s x-in len y.later));
            grown = λ i. grown-trans s u (set u x s) f.list i (step i (moved u x s (omega (arith, x-in, len)) i)) (f.grown i);
            full = full f.list f.full (λ z. out (may-less N s (set u x s) f.list f.grown x z).later (moved u x s (omega (arith, x-in, len)) x));
          }
        where
          step : (i : ℕ) → Moved u x s i → Grown s u (set u x s) i
          step i (here e a b) = inr (omega (arith, y.later))
          step i (stays e a) = inl a

          out : s < at (set u x s) x → Moved u x s x → ⊥
          out h (here e a b) = omega arith
          out h (stays e a) = e refl
