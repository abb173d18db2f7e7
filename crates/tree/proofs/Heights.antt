-- With at most 1,023 operations a kept tree is at most 14 high.
use Rattle.std.proofs.Common.{◌≡◌, ℕ, zero, suc, ◌+◌, ◌-◌, ◌≤◌, max, List, ◌∷◌, length, arith, length-append}
use native.Mathlib.Decide.{dec_le}
use Rattle.effects.specs.declared.Effect as effect
use Rattle.times.specs.declared.Time as time
use Rattle.cells.specs.declared.Cell.{Cell}
use Rattle.tree.specs.Trees.{Tree, leaf, node, height, operations, Kept}

-- the fewest operations of a tree of this height
abbrev fewest : ℕ → ℕ
fewest zero = 0
fewest (suc zero) = 1
fewest (suc (suc h)) = fewest (suc h) + fewest h + 1

fewest_more : (h : ℕ) → fewest h ≤ fewest (suc h)
fewest_more zero = omega arith
fewest_more (suc zero) = omega arith
fewest_more (suc (suc h)) = omega arith

fewest_higher : (h d : ℕ) → fewest h ≤ fewest (d + h)
fewest_higher h zero = let f : 0 + h ≡ h = omega arith in rw f (omega arith)
fewest_higher h (suc d) = let f : suc d + h ≡ suc (d + h) = omega arith in rw f (omega (arith, fewest_higher h d, fewest_more (d + h)))

-- a tree of height 15 has at least 1,596 operations
low : (h n : ℕ) → fewest h ≤ n → n ≤ 1023 → h ≤ 14
low h n few most = go (dec_le h 14)
  where
    go : Dec (h ≤ 14) → h ≤ 14
    go (yes x) = x
    go (no x) = let f : h - 15 + 15 ≡ h = omega arith in let many = fewest_higher 15 (h - 15) in let far = rw f at many in omega arith

-- over two sides whose heights differ by at most 1
fewest_over : (a b : ℕ) → a ≤ b + 1 → b ≤ a + 1 → fewest (max a b + 1) ≤ fewest a + fewest b + 1
fewest_over a b p q = go (dec_le a b) (dec_le b a)
  where
    equal : (n : ℕ) → fewest (suc n) ≤ fewest n + fewest n + 1
    equal zero = omega arith
    equal (suc n) = omega (arith, fewest_more n)

    go : Dec (a ≤ b) → Dec (b ≤ a) → fewest (max a b + 1) ≤ fewest a + fewest b + 1
    go (yes x) (yes y) = let e : a ≡ b = omega arith in let f : max a b + 1 ≡ suc b = omega arith in rw (f, e) (equal b)
    go (yes x) (no y) = let e : b ≡ suc a = omega arith in let f : max a b + 1 ≡ suc (suc a) = omega arith in rw (f, e) (omega arith)
    go (no x) (yes y) = let e : a ≡ suc b = omega arith in let f : max a b + 1 ≡ suc (suc b) = omega arith in rw (f, e) (omega arith)
    go (no x) (no y) = absurd (omega arith)

module _ {E St T : Type 0} (e : effect.Ghosts E St) (t : time.Ghosts T) where
  many : (cells : List Cell) (s : Tree E T) → Kept e t cells s → fewest (height s) ≤ length (operations s)
  many cells leaf h = omega arith
  many cells (node k l o r) h = omega (arith, fewest_over (height l) (height r) h.3 h.4, many cells l h.5, many cells r h.6, length-append (operations l) (o ∷ operations r))

  pub at_most_14 : (cells : List Cell) (s : Tree E T) → Kept e t cells s → length (operations s) ≤ 1023 → height s ≤ 14
  at_most_14 cells s h few = low (height s) (length (operations s)) (many cells s h) few
