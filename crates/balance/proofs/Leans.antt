-- How two sides whose heights differ by two are joined.
use Rattle.std.proofs.Common.{◌≡◌, ◌<◌, ◌≤◌, Ok, Result, sym, refl, ap, subst, append_assoc, arith}
use Rattle.effects.specs.declared.Effect as effect
use Rattle.times.specs.declared.Time as time
use Rattle.reference.specs.declared.Operation.{Operation}
use Rattle.store.specs.declared.fault.Fault.{Fault}
use Rattle.store.specs.Meaning.{Meaning}
use Rattle.tree.specs.declared.Side.{Side}
use Rattle.tree.specs.declared.Parts.{Parts}
use Rattle.tree.specs.Trees.{leaf, node, height, side}
use Rattle.tree.specs.Making.{Opens}
use Rattle.tree.proofs.Makings.{made_as, opened_as}
use Rattle.balance.specs.Turning.{NestsRight, NestsLeft, PartsMiddle, LeansLeft, LeansRight}

module _ {E St T : Type 0} (e : effect.Ghosts E St) (t : time.Ghosts T) where
  pub left_parted : (m m' n : Meaning) (left right : Side E) (op : Operation E T) (high : Parts E T) (answer : Result (Side E) Fault) →
      m' ≡ m → Opens e t m left.number (Ok high) → high.left.height < high.right.height →
      PartsMiddle e t m' n high.left high.op high.right.number op right answer → LeansLeft e t m n left op right answer
  left_parted m m' n left right op high answer same opened less turned leaf r s tall room = absurd (omega arith)
  left_parted m m' n left right op high answer same opened less turned (node k a p leaf) r s tall room =
      let is = opened_as e t m left.number high k a leaf p opened (sym (ap (λ w. w.number) s.left_is)) s.left_kept in
      let lower = rw is at less in
      absurd (omega (arith, lower))
  left_parted m m' n left right op high answer same opened less turned (node k a p (node j x o y)) r s tall room =
      let b = node j x o y in
      let is = opened_as e t m left.number high k a b p opened (sym (ap (λ w. w.number) s.left_is)) s.left_kept in
      let lower : height a < height b = rw is at less in
      let turn : PartsMiddle e t m n (side e t a) p j op right answer = subst (λ w. PartsMiddle e t m n w.left w.op w.right.number op right answer) is (subst (λ w. PartsMiddle e t w n high.left high.op high.right.number op right answer) same turned) in
      let kept = s.left_kept in
      made_as e t (turn a x y r o refl s.right_is kept.5 s.right_kept kept.6 (omega arith) (omega arith) room) (simp append_assoc) (λ s c h. (omega arith, omega arith))

  pub left_nested : (m m' n : Meaning) (left right : Side E) (op : Operation E T) (high : Parts E T) (answer : Result (Side E) Fault) →
      m' ≡ m → Opens e t m left.number (Ok high) → high.right.height ≤ high.left.height →
      NestsRight e t m' n high.left high.op high.right op right answer → LeansLeft e t m n left op right answer
  left_nested m m' n left right op high answer same opened less turned leaf r s tall room = absurd (omega arith)
  left_nested m m' n left right op high answer same opened less turned (node k a p b) r s tall room =
      let is = opened_as e t m left.number high k a b p opened (sym (ap (λ w. w.number) s.left_is)) s.left_kept in
      let lower : height b ≤ height a = rw is at less in
      let turn : NestsRight e t m n (side e t a) p (side e t b) op right answer = rw (same, is) at turned in
      let kept = s.left_kept in
      made_as e t
      (turn a b r refl kept.5 (record { left_is = refl; right_is = s.right_is; left_kept = kept.6; right_kept = s.right_kept; left_low = omega arith; right_low = omega arith }) (omega arith) (omega arith) (omega arith, omega arith))
      (simp append_assoc) (λ s c h. (omega arith, omega arith))

  pub right_parted : (m m' n : Meaning) (left right : Side E) (op : Operation E T) (high : Parts E T) (answer : Result (Side E) Fault) →
      m' ≡ m → Opens e t m right.number (Ok high) → high.right.height < high.left.height →
      PartsMiddle e t m' n left op high.left.number high.op high.right answer → LeansRight e t m n left op right answer
  right_parted m m' n left right op high answer same opened less turned l leaf s tall room = absurd (omega arith)
  right_parted m m' n left right op high answer same opened less turned l (node k leaf p b) s tall room =
      let is = opened_as e t m right.number high k leaf b p opened (sym (ap (λ w. w.number) s.right_is)) s.right_kept in
      let lower = rw is at less in
      absurd (omega (arith, lower))
  right_parted m m' n left right op high answer same opened less turned l (node k (node j x o y) p b) s tall room =
      let a = node j x o y in
      let is = opened_as e t m right.number high k a b p opened (sym (ap (λ w. w.number) s.right_is)) s.right_kept in
      let lower : height b < height a = rw is at less in
      let turn : PartsMiddle e t m n left op j p (side e t b) answer = subst (λ w. PartsMiddle e t m n left op w.left.number w.op w.right answer) is (subst (λ w. PartsMiddle e t w n left op high.left.number high.op high.right answer) same turned) in
      let kept = s.right_kept in
      made_as e t (turn l x y b o s.left_is refl s.left_kept kept.6 kept.5 (omega arith) (omega arith) room) (simp append_assoc) (λ s c h. (omega arith, omega arith))

  pub right_nested : (m m' n : Meaning) (left right : Side E) (op : Operation E T) (high : Parts E T) (answer : Result (Side E) Fault) →
      m' ≡ m → Opens e t m right.number (Ok high) → high.left.height ≤ high.right.height →
      NestsLeft e t m' n left op high.left high.op high.right answer → LeansRight e t m n left op right answer
  right_nested m m' n left right op high answer same opened less turned l leaf s tall room = absurd (omega arith)
  right_nested m m' n left right op high answer same opened less turned l (node k a p b) s tall room =
      let is = opened_as e t m right.number high k a b p opened (sym (ap (λ w. w.number) s.right_is)) s.right_kept in
      let lower : height a ≤ height b = rw is at less in
      let turn : NestsLeft e t m n left op (side e t a) p (side e t b) answer = rw (same, is) at turned in
      let kept = s.right_kept in
      made_as e t
      (turn l a b refl kept.6 (record { left_is = s.left_is; right_is = refl; left_kept = s.left_kept; right_kept = kept.5; left_low = omega arith; right_low = omega arith }) (omega arith) (omega arith) (omega arith, omega arith))
      (simp append_assoc) (λ s c h. (omega arith, omega arith))
