-- Joining a factor to the word, and storing the word, keep the state of the buffer.
-- Assumes nothing.
use mathlib.Core.Path.{◌≡◌, refl, subst, sym, ◌∙◌}
use mathlib.Core.Logic.{◌⊎◌, inl, inr}
use Prim.Native.Nat.{ℕ, suc, ◌+◌, ◌<◌, ◌≤◌, ◌-◌}
use native.Mathlib.Decide.{dec_lt}
use native.Mathlib.Omega.{arith}
use Rattle.words.specs.Laws.NextSmaller.{next_lyndon, next_unique, next_nests, lyndon_join}
use Rattle.words.specs.Laws.Position.{Agree, SpanLess}
use Rattle.words.specs.Laws.SuffixOrder.{NextSmaller, agree_trans, agree_less}
use Rattle.words.specs.Letters.{Letters}
use Rattle.array.specs.Core.Joining.{LastPart, Joining}
use Rattle.array.specs.Core.Rows.{Remembered, Rows, letter, word}
use Rattle.array.proofs.Known.{Known}
use Rattle.array.proofs.LastPlace.{restored_factor}
use Rattle.array.proofs.RowLaws.{Front, rows_same, front}

-- A joined word, once more letters are known to agree.
pub joining_agreed {ℓ κ} : {A : Type ℓ} {O : Letters {ℓ, κ} A} {x : ℕ → A} {n : ℕ} {lam buf : ℕ → ℕ} {i j k₀ k g : ℕ} → Joining O x n lam buf i j k₀ g →
    (j < n → Agree x i j k) → (j < n → j + k ≤ n) → Joining O x n lam buf i j k g
joining_agreed w a b =
    record {
      lyndon = w.lyndon;
      inside = w.inside;
      covered = w.covered;
      inner = w.inner;
      rows = w.rows;
      agree = a;
      within = b;
      joined = w.joined;
    }

module _ {ℓ κ} {A : Type ℓ} {O : Letters {ℓ, κ} A} {x : ℕ → A} {n : ℕ} {lam : ℕ → ℕ} (next : (t : ℕ) → t < n → NextSmaller O x n t (t + lam t))
    {buf buf' : ℕ → ℕ} where
  -- The word from i is joined with the factor at j, whose last place gets its entry back.
  pub joining_step : {i j k₀ g₀ k s k' : ℕ} → Joining O x n lam buf i j k₀ g₀ → j < n → Known x n lam buf j s → Agree x i j k →
      SpanLess O x i j j (j + lam j) → k' ≤ k → k' ≤ s → ((t : ℕ) → t < n → ¬ (suc t ≡ j + lam j) → buf' t ≡ buf t) →
      ((t : ℕ) → suc t ≡ j + lam j → buf' t ≡ 1) → Joining O x n lam buf' i (j + lam j) k' k
  joining_step {i} {j} {k = k} {s} {k'} w l known g less a b kept reset =
      record {
        lyndon = lyndon_join O x n i j (j + lam j) w.lyndon (next_lyndon O x n j (j + lam j) nj) less;
        inside = nj.inside;
        covered = λ t p q. reach t p q (dec_lt t j) (dec_lt j t);
        inner = λ t p q. entry t p q (dec_lt t j);
        rows = rows_same (λ t p q. kept t q (λ e. omega arith)) fr.rest;
        within = λ m. omega (arith, known.within m);
        agree =
            λ m. agree_trans x i j (j + lam j) k' (agree_less x i j k k' g a) (agree_less x j (j + lam j) s k' (known.agree m) b);
        joined =
            inr
            (record {
              part = j;
              after = w.lyndon.non_empty;
              before = nj.after;
              part_ends = refl;
              earlier = w.covered;
              agree = g;
            });
      }
    where
      nj : NextSmaller O x n j (j + lam j)
      nj = next j l

      fr : Front x n lam buf j
      fr = front l w.rows

      reach : (t : ℕ) → i < t → t < j + lam j → Dec (t < j) → Dec (j < t) → t + lam t ≤ j + lam j
      reach t p q (yes h) r = omega (arith, w.covered t p h)
      reach t p q (no h) (yes r) = next_nests O x n j (j + lam j) t (t + lam t) nj r q (next t (omega (arith, nj.inside)))
      reach t p q (no h) (no r) =
          let e : j ≡ t = omega (arith, h, r) in
          subst (λ (z : ℕ). z + lam z ≤ j + lam j) e (omega arith)

      entry : (t : ℕ) → i < t → t < j + lam j → Dec (t < j) → buf' t ≡ lam t
      entry t p q (yes h) = kept t (omega (arith, nj.inside)) (λ e. omega (arith, nj.after)) ∙ w.inner t p h
      entry t p q (no h) = restored_factor next l w.rows kept reset t (omega (arith, h)) q

  -- The length of the word at i is stored, and at its last place how far it agrees with what follows and with its last part.
  pub joining_store : {i j k g s : ℕ} → Joining O x n lam buf i j k g → NextSmaller O x n i j → i + buf' i ≡ j → s ≤ k → s ≤ g →
      ((t : ℕ) → suc i < j → suc t ≡ j → buf' t ≡ s) → ((t : ℕ) → i < t → t < n → ¬ ((suc i < j) × (suc t ≡ j)) → buf' t ≡ buf t) →
      Rows x n lam buf' i
  joining_store {i} {j} {k} {g} {s} w m own a b stored kept = go w.joined
    where
      is : i + lam i ≡ j
      is = next_unique O x n i (i + lam i) j (next i (omega (arith, w.inside, w.lyndon.non_empty))) m

      rest : Rows x n lam buf' j
      rest = rows_same (λ t p q. kept t (omega (arith, w.lyndon.non_empty)) q (λ e. omega (arith, e.1))) w.rows

      go : (j ≡ suc i) ⊎ LastPart x lam i j g → Rows x n lam buf' i
      go (inl e) =
          letter {c = i} (omega (arith, w.inside, w.lyndon.non_empty)) (omega (arith, is)) (omega arith)
          (subst (λ (c : ℕ). Rows x n lam buf' c) e rest)
      go (inr p) = word remembered (subst (λ (c : ℕ). Rows x n lam buf' c) (sym is) rest)
        where
          long : suc i < j
          long = omega (arith, p.after, p.before)

          at_last : buf' (j - 1) ≡ s
          at_last = stored (j - 1) long (omega (arith, long))

          remembered : Remembered x n lam buf' i
          remembered =
              record {
                inside = omega (arith, w.inside, long);
                ends_inside = omega (arith, is, w.inside);
                long = omega (arith, is, long);
                own = omega (arith, is);
                inner = λ t q r. kept t q (omega (arith, is, w.inside)) (λ e. omega (arith, is, e.1)) ∙ w.inner t q (omega (arith, is));
                last = j - 1;
                last_is = omega (arith, is, long);
                next_agree =
                    λ l.
                    subst (λ (z : ℕ). Agree x i z (buf' (j - 1))) (sym is)
                    (subst (λ (z : ℕ). Agree x i j z) (sym at_last) (agree_less x i j k s (w.agree (omega (arith, is))) a));
                next_within = λ l. omega (arith, is, at_last, w.within (omega (arith, is)));
                part = p.part;
                part_after = p.after;
                part_before = omega (arith, is, p.before);
                part_ends = p.part_ends ∙ sym is;
                part_first = λ t q r. omega (arith, is, p.earlier t q r, p.before);
                part_agree =
                    subst (λ (z : ℕ). Agree x i p.part z) (sym at_last) (agree_less x i p.part g s p.agree b);
              }
