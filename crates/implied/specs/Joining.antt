-- What jobs lead to, added to a row byte by byte and job by job. Assumes nothing.
use Rattle.std.specs.Prelude.{◌≡◌, refl, ◌⊎◌, ◌↔◌, Bool, ◌||◌, ℕ, ◌+◌, ◌*◌, ◌/◌, ◌%◌, ◌≤◌, ◌<◌, T, eqb, length, set}
use Rattle.std.proofs.Common.{sym, ap, ap₂, ◌∙◌, inl, inr, ⊎_elim, arith, length-set, get_or-set_same, get_or-set_other}
use mathlib.Core.List.Memᴰ
use mathlib.Core.List.{List, [], ◌∷◌, ◌++◌, Memᴰ}
use Rattle.std.proofs.Math.Decide.{ℕ_discrete}
use Rattle.std.specs.Int.Bits.{bit_or}
use Rattle.rules.specs.Basics.{at}
use Rattle.laws.specs.Tests.{T-or}
use Rattle.jobset.specs.Sets.{digit, member, union}
use Rattle.jobset.specs.Membership.{member_union}
use Rattle.bitmap.specs.Marks.{is_marked}
use Rattle.needrows.specs.Rows.{row_bytes, row_bits}
use Rattle.implied.specs.Beyond.{Others, RowsThere, in_row, Leads, Joined}

-- ---- job by job

module _ {takers : List ℕ} {n g : ℕ} where
  -- no job
  pub joined-none : (b : List ℕ) → Joined takers n g [] b b
  joined-none b = record {
    size = refl;
    others = λ h j _ _. refl;
    row = λ j _. (inl, ⊎_elim (λ t. t) (λ w. absurd (Memᴰ.not-nil w.1)));
  }

  -- some jobs, and then others
  pub joined-append : {xs ys b c d : List ℕ} → ((k : ℕ) → Memᴰ k ys → k ≡ g → ⊥)
      → Joined takers n g xs b c → Joined takers n g ys c d → Joined takers n g (xs ++ ys) b d
  joined-append {xs} {ys} {b} {c} {d} other p q = record {
    size = q.size ∙ p.size;
    others = λ h j e l. q.others h j e l ∙ p.others h j e l;
    row = λ j l. (λ t. to j l ((q.row j l).0 t), λ w. (q.row j l).1 (from j l w));
  }
    where
      kept : (k j : ℕ) → Memᴰ k ys → j < n → in_row c k j ≡ in_row b k j
      kept k j m l = p.others k j (other k m) l

      to : (j : ℕ) → j < n → T (in_row c g j) ⊎ ((k : ℕ) × Memᴰ k ys × Leads takers c k j)
          → T (in_row b g j) ⊎ ((k : ℕ) × Memᴰ k (xs ++ ys) × Leads takers b k j)
      to j l (inl t) = ⊎_elim inl (λ w. inr (w.0, Memᴰ.append_left ys w.1, w.2)) ((p.row j l).0 t)
      to j l (inr (k, m, w)) = inr (k, Memᴰ.append_right xs m, ⊎_elim inl (λ t. inr (rw (kept k j m l) at t)) w)

      from : (j : ℕ) → j < n → T (in_row b g j) ⊎ ((k : ℕ) × Memᴰ k (xs ++ ys) × Leads takers b k j)
          → T (in_row c g j) ⊎ ((k : ℕ) × Memᴰ k ys × Leads takers c k j)
      from j l (inl t) = inl ((p.row j l).1 (inl t))
      from j l (inr (k, m, w)) =
          ⊎_elim (λ u. inl ((p.row j l).1 (inr (k, u, w)))) (λ u. inr (k, u, ⊎_elim inl (λ t. inr (rw (kept k j u l) t)) w)) (Memᴰ.append_cases xs m)

-- what the jobs ks lead to is to come beyond g, and then the rows are as they shall be: those before, with what all the jobs lead to
pub record ToJoin (takers : List ℕ) (n g : ℕ) (all before ks now : List ℕ) : Type 0 where
  pub size : length now ≡ length before
  pub others : Others n g ks
  pub same : (after : List ℕ) → Joined takers n g ks now after → Joined takers n g all before after

module _ {takers : List ℕ} {n g : ℕ} where
  pub join-start : (all before : List ℕ) → Others n g all → ToJoin takers n g all before all before
  join-start all before others = record { size = refl; others = others; same = λ after j. j }

  module _ {all before ks now : List ℕ} (w : ToJoin takers n g all before ks now) where
    -- those that come first are other jobs
    pub join-others : (xs ys : List ℕ) → ks ≡ xs ++ ys → Others n g xs
    join-others xs ys e k m = w.others k (rw e (Memᴰ.append_left ys m))

    -- they come
    pub join_more : (xs ys next : List ℕ) → ks ≡ xs ++ ys → Joined takers n g xs now next → ToJoin takers n g all before ys next
    join_more xs ys next e j = record {
      size = j.size ∙ w.size;
      others = left;
      same = λ after v. w.same after (rw e (joined-append (λ k m. (left k m).1) j v));
    }
      where
        left : Others n g ys
        left k m = w.others k (rw e (Memᴰ.append_right xs m))

    -- none is left
    pub join-end : ks ≡ [] → Joined takers n g all before now
    join-end e = w.same now (rw e (joined-none now))

    -- the rows stay where they are
    pub still-there : RowsThere takers n before → RowsThere takers n now
    still-there r = record { rows_of = r.rows_of; room = omega (arith, r.room, w.size) }

-- ---- one job, byte by byte

-- a mark stands in a byte
in-byte : (rows : List ℕ) (h j : ℕ) → in_row rows h j ≡ eqb (digit (at rows (row_bytes * h + j / 8)) (j % 8)) 1
unfolding is_marked
in-byte rows h j =
    let p : (row_bits * h + j) / 8 ≡ row_bytes * h + j / 8 = omega arith in
    let q : (row_bits * h + j) % 8 ≡ j % 8 = omega arith in
    ap₂ (λ (x y : ℕ). eqb (digit (at rows x) y) 1) p q

-- the marks of two bytes together
digit_or : (a b j : ℕ) → eqb (digit (bit_or a b) j) 1 ≡ (eqb (digit a j) 1 || eqb (digit b j) 1)
unfolding member union
digit_or a b j = member_union (record { bits = a }) (record { bits = b }) j

-- the byte of two rows together
abbrev pub or_of : List ℕ → List ℕ → ℕ → ℕ → ℕ → ℕ
or_of takers beyond g k d = bit_or (bit_or (at beyond (row_bytes * g + d)) (at takers (row_bytes * k + d))) (at beyond (row_bytes * k + d))

-- the first i bytes of row g have those of row k of both lists too; the other bytes are as they were
pub record BytesJoined (takers : List ℕ) (g k : ℕ) (before : List ℕ) (i : ℕ) (now : List ℕ) : Type 0 where
  pub size : length now ≡ length before
  pub done : (d : ℕ) → d < i → at now (row_bytes * g + d) ≡ or_of takers before g k d
  pub other : (x : ℕ) → ((d : ℕ) → d < i → x ≡ row_bytes * g + d → ⊥) → at now x ≡ at before x

module _ (takers : List ℕ) (g k : ℕ) (before : List ℕ) where
  pub bytes-start : BytesJoined takers g k before 0 before
  bytes-start = record { size = refl; done = λ d h. absurd (omega arith); other = λ x _. refl }

  module _ (own : k ≡ g → ⊥) where
    -- a byte more
    pub bytes-more : (i : ℕ) (now : List ℕ) → i < row_bytes → row_bytes * g + row_bytes ≤ length before → BytesJoined takers g k before i now
        → BytesJoined takers g k before (i + 1) (set now (row_bytes * g + i) (or_of takers now g k i))
    bytes-more i now h fits w = record {
      size = length-set now (row_bytes * g + i) _ ∙ w.size;
      done = λ d l. go d l (ℕ_discrete d i);
      other = λ x f. get_or-set_other now (row_bytes * g + i) x _ 0 (f i (omega arith)) ∙ w.other x (λ d l. f d (omega arith));
    }
      where
        same : or_of takers now g k i ≡ or_of takers before g k i
        same = ap₂ (λ (x y : ℕ). bit_or (bit_or x (at takers (row_bytes * k + i))) y)
            (w.other (row_bytes * g + i) (λ d l e. omega arith)) (w.other (row_bytes * k + i) (λ d l e. own (omega arith)))

        go : (d : ℕ) → d < i + 1 → Dec (d ≡ i) → at (set now (row_bytes * g + i) (or_of takers now g k i)) (row_bytes * g + d) ≡ or_of takers before g k d
        go d l (yes e) = rw e (get_or-set_same now (row_bytes * g + i) (or_of takers now g k i) 0 (omega (arith, w.size)) ∙ same)
        go d l (no e) = get_or-set_other now (row_bytes * g + i) (row_bytes * g + d) _ 0 (λ f. e (omega arith)) ∙ w.done d (omega arith)

    -- all bytes in use
    pub bytes-joined : (n i : ℕ) (now : List ℕ) → n ≤ 8 * i → i ≤ row_bytes → BytesJoined takers g k before i now → Joined takers n g (k ∷ []) before now
    bytes-joined n i now h few w = record {
      size = w.size;
      others = λ a j e l. in-byte now a j
          ∙ ap (λ (x : ℕ). eqb (digit x (j % 8)) 1) (w.other (row_bytes * a + j / 8) (λ d m f. e (omega arith))) ∙ sym (in-byte before a j);
      row = λ j l. (
        λ t. ⊎_elim inl (λ u. inr (k, Memᴰ.head refl, u)) ((which j).0 (rw (marks j l) at t)),
        λ v. rw (marks j l) ((which j).1 (⊎_elim inl (λ (h, m, u). inr (alone h j m u)) v)),
      );
    }
      where
        marks : (j : ℕ) → j < n → in_row now g j ≡ ((in_row before g j || in_row takers k j) || in_row before k j)
        marks j l =
            let m : at now (row_bytes * g + j / 8) ≡ or_of takers before g k (j / 8) = w.done (j / 8) (omega arith) in
            rw (in-byte now g j, in-byte before g j, in-byte takers k j, in-byte before k j, m)
            (digit_or _ _ (j % 8) ∙ ap (λ (b : Bool). b || eqb (digit (at before (row_bytes * k + j / 8)) (j % 8)) 1) (digit_or _ _ (j % 8)))

        -- what stands there, as a choice
        which : (j : ℕ) → T ((in_row before g j || in_row takers k j) || in_row before k j) ↔ (T (in_row before g j) ⊎ Leads takers before k j)
        which j = (
          λ t. ⊎_elim (λ u. ⊎_elim inl (λ v. inr (inl v)) (either.0 u)) (λ v. inr (inr v)) (all.0 t),
          λ v. all.1 (⊎_elim (λ t. inl (either.1 (inl t))) (⊎_elim (λ t. inl (either.1 (inr t))) inr) v),
        )
          where
            either : T (in_row before g j || in_row takers k j) ↔ (T (in_row before g j) ⊎ T (in_row takers k j))
            either = T-or (in_row before g j) (in_row takers k j)

            all : T ((in_row before g j || in_row takers k j) || in_row before k j) ↔ (T (in_row before g j || in_row takers k j) ⊎ T (in_row before k j))
            all = T-or (in_row before g j || in_row takers k j) (in_row before k j)

        -- of one job
        alone : (h j : ℕ) → Memᴰ h (k ∷ []) → Leads takers before h j → Leads takers before k j
        alone h j m u = rw (⊎_elim (λ e. e) (λ z. absurd (Memᴰ.not-nil z)) (Memᴰ.cases_cons m)) at u
