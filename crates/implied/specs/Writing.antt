-- The loops that write the list, piece by piece. Assumes nothing.
use Rattle.std.specs.Prelude.{◌≡◌, refl, ℕ, ◌+◌, ◌≤◌, length}
use Rattle.std.proofs.Common.{sym, ap₂, ◌∙◌, arith, length-append}
use Rattle.std.proofs.Math.Path.{ap}
use mathlib.Core.List.{List, [], ◌++◌}
use Rattle.laws.specs.Writing.{put, length-put, put-append}

-- the entries xs are to come, from entry `next` of the list on, and then it is as it shall be: the list before, with `all` from entry `first` on
pub record ToCome (first : ℕ) (all before : List ℕ) (next : ℕ) (xs list : List ℕ) : Type 0 where
  pub size : length list ≡ length before
  pub entries : next + length xs ≡ first + length all
  pub same : put next xs list ≡ put first all before

pub come-start : (first : ℕ) (all list : List ℕ) → ToCome first all list first all list
come-start first all list = record { size = refl; entries = refl; same = refl }

module _ {first : ℕ} {all before : List ℕ} {next : ℕ} {xs list : List ℕ} (w : ToCome first all before next xs list) where
  module _ (ys zs : List ℕ) (e : xs ≡ ys ++ zs) where
    -- where all have room, those that come first have
    pub come-room : first + length all ≤ length before → next + length ys ≤ length list
    come-room fits = omega (arith, fits, w.size, w.entries, ap length e, length-append ys zs)

    -- they are written
    pub come-put : (behind : ℕ) (l : List ℕ) → behind ≡ next + length ys → l ≡ put next ys list → ToCome first all before behind zs l
    come-put behind l b p = record {
      size = ap length p ∙ length-put next ys list ∙ w.size;
      entries = omega (arith, w.entries, ap length e, length-append ys zs);
      same =
          ap₂ (λ (j : ℕ) (z : List ℕ). put j zs z) b p ∙ sym (put-append next ys zs list)
          ∙ ap (λ (u : List ℕ). put next u list) (sym e) ∙ w.same;
    }

  -- none is left
  pub come-size : xs ≡ [] → next ≡ first + length all
  come-size e = omega (arith, w.entries, ap length e)

  pub come-end : xs ≡ [] → list ≡ put first all before
  unfolding put
  come-end e = ap (λ (u : List ℕ). put next u list) (sym e) ∙ w.same
