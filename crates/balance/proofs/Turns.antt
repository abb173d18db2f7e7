-- What one join after another makes.
use Rattle.std.proofs.Common.{◌≡◌, ℕ, ◌+◌, max, ◌∷◌, ◌++◌, Ok, Err, Result, refl, ap, arith}
use Rattle.effects.specs.declared.Effect as effect
use Rattle.times.specs.declared.Time as time
use Rattle.reference.specs.declared.Operation.{Operation}
use Rattle.store.specs.declared.fault.Fault.{Fault}
use Rattle.store.specs.Meaning.{Meaning}
use Rattle.tree.specs.declared.Side.{Side}
use Rattle.tree.specs.declared.Parts.{Parts}
use Rattle.tree.specs.Trees.{Tree, node, height, operations, side, Kept}
use Rattle.tree.specs.Making.{Room, Made, Opens, Joins}
use Rattle.tree.proofs.Keeping.{refused, same_answer, still, room_left}
use Rattle.tree.proofs.Makings.{made_as, then_made, opened_as}
use Rattle.balance.specs.Turning.{NestsRight, NestsLeft, PartsMiddle}

module _ {E St T : Type 0} (e : effect.Ghosts E St) (t : time.Ghosts T) where
  pub nest_right : (m n u : Meaning) (a b c low : Side E) (p q : Operation E T) (answer : Result (Side E) Fault) →
      Joins e t m n b q c (Ok low) → Joins e t n u a p low answer → NestsRight e t m u a p b q c answer
  nest_right m n u a b c low p q answer first second x y z is kept s near far room =
      let one = first y z s (omega arith, omega arith) in
      let fits = one.fits in
      let two = second x one.tree (record {
        left_is = is;
        right_is = same_answer _ _ one.good;
        left_kept = still e t m n one.new x one.gained kept;
        right_kept = one.kept;
        left_low = omega arith;
        right_low = omega arith;
      }) (room_left m n one.new 1 one.gained (omega arith, omega arith)) in
      then_made e t one two (ap (λ w. operations x ++ (p ∷ w)) one.reads) (λ s c h. (omega arith, omega arith))

  pub nest_left : (m n u : Meaning) (a b c low : Side E) (p q : Operation E T) (answer : Result (Side E) Fault) →
      Joins e t m n a p b (Ok low) → Joins e t n u low q c answer → NestsLeft e t m u a p b q c answer
  nest_left m n u a b c low p q answer first second x y z is kept s near far room =
      let one = first x y s (omega arith, omega arith) in
      let fits = one.fits in
      let two = second one.tree z (record {
        left_is = same_answer _ _ one.good;
        right_is = is;
        left_kept = one.kept;
        right_kept = still e t m n one.new z one.gained kept;
        left_low = omega arith;
        right_low = omega arith;
      }) (room_left m n one.new 1 one.gained (omega arith, omega arith)) in
      then_made e t one two (ap (λ w. w ++ (q ∷ operations z)) one.reads) (λ s c h. (omega arith, omega arith))

  -- the sides of a parted middle, and the two outer ones
  module _ (m n u : Meaning) (a d low : Side E) (k : ℕ) (p q : Operation E T) (mid : Parts E T) (answer : Result (Side E) Fault)
      (opened : Opens e t m k (Ok mid)) (first : Joins e t m n a p mid.left (Ok low)) (second : Joins e t n u mid.right q d answer)
      (w x y z : Tree E T) (o : Operation E T) (is_a : a ≡ side e t w) (is_d : d ≡ side e t z) (hw : Kept e t m.cells w) (hz : Kept e t m.cells z)
      (hk : Kept e t m.cells (node k x o y)) (even : height w ≡ max (height x) (height y)) (same : height z ≡ height w) (room : Room m 3) where
    lower : Made e t m n (Ok low) (operations w ++ (p ∷ operations x)) (λ s c. (height s ≡ height w + 1) × (c ≡ 1))
    lower =
        let is = opened_as e t m k mid k x y o opened refl hk in
        made_as e t
        (first w x (record { left_is = is_a; right_is = ap (λ v. v.left) is; left_kept = hw; right_kept = hk.5; left_low = omega arith; right_low = omega arith }) (omega arith, omega arith))
        refl (λ s c h. (omega arith, omega arith))

    upper : Made e t n u answer (operations y ++ (q ∷ operations z)) (λ s c. (height s ≡ height w + 1) × (c ≡ 1))
    upper =
        let is = opened_as e t m k mid k x y o opened refl hk in
        let one = lower in
        let fits = one.fits in
        made_as e t
        (second y z (record { left_is = ap (λ v. v.right) is; right_is = is_d; left_kept = still e t m n one.new y one.gained hk.6; right_kept = still e t m n one.new z one.gained hz; left_low = omega arith; right_low = omega arith })
        (room_left m n one.new 1 one.gained (omega arith, omega arith)))
        refl (λ s c h. (omega arith, omega arith))

  -- no join of a parted middle is refused
  pub parted_stop : (m m' n u : Meaning) (a d low : Side E) (k : ℕ) (p q : Operation E T) (mid : Parts E T) (answer : Result (Side E) Fault) (f : Fault) →
      m' ≡ m → Opens e t m k (Ok mid) → Joins e t m' n a p mid.left (Ok low) → Joins e t n u mid.right q d (Err f) →
      PartsMiddle e t m u a p k q d answer
  parted_stop m m' n u a d low k p q mid answer f same opened first second w x y z o is_a is_d hw hz hk even level' room =
      refused f _ (upper m n u a d low k p q mid (Err f) opened (rw same at first) second w x y z o is_a is_d hw hz hk even level' room).good

  parted_three : (m n u v : Meaning) (a d low high : Side E) (k : ℕ) (p q : Operation E T) (mid : Parts E T) (answer : Result (Side E) Fault) →
      Opens e t m k (Ok mid) → Joins e t m n a p mid.left (Ok low) → Joins e t n u mid.right q d (Ok high) → Joins e t u v low mid.op high answer →
      PartsMiddle e t m v a p k q d answer
  parted_three m n u v a d low high k p q mid answer opened first second third w x y z o is_a is_d hw hz hk even level' room =
      let is = opened_as e t m k mid k x y o opened refl hk in
      let one = lower m n u a d low k p q mid (Ok high) opened first second w x y z o is_a is_d hw hz hk even level' room in
      let two = upper m n u a d low k p q mid (Ok high) opened first second w x y z o is_a is_d hw hz hk even level' room in
      let fits = one.fits in
      let fits' = two.fits in
      let half = room_left m n one.new 2 one.gained (omega arith, omega arith) in
      let three = third one.tree two.tree (record { left_is = same_answer _ _ one.good; right_is = same_answer _ _ two.good; left_kept = still e t n u two.new one.tree two.gained one.kept; right_kept = two.kept; left_low = omega arith; right_low = omega arith })
      (room_left n u two.new 1 two.gained (omega arith, omega arith)) in
      let root = ap (λ v. v.op) is in
      let reads : operations one.tree ++ (mid.op ∷ operations two.tree) ≡ (operations w ++ (p ∷ operations x)) ++ (o ∷ (operations y ++ (q ∷ operations z))) = rw (one.reads, two.reads, root) refl in
      let last = then_made e t {H = λ s c. (height s ≡ height w + 2) × (c ≡ 2)} two three reads (λ s c h. (omega arith, omega arith)) in
      then_made e t one last refl (λ s c h. (omega arith, omega arith))

  pub parted : (m m' n u v : Meaning) (a d low high : Side E) (k : ℕ) (p q : Operation E T) (mid : Parts E T) (answer : Result (Side E) Fault) →
      m' ≡ m → Opens e t m k (Ok mid) → Joins e t m' n a p mid.left (Ok low) → Joins e t n u mid.right q d (Ok high) → Joins e t u v low mid.op high answer →
      PartsMiddle e t m v a p k q d answer
  parted m m' n u v a d low high k p q mid answer same opened first second third =
      parted_three m n u v a d low high k p q mid answer opened (rw same at first) second third
