-- A total acts as its operations one after another, so a descent may take whole sides by theirs.
use Rattle.std.proofs.Common.{◌≡◌, ℕ, true, ◌∷◌, Some, None, Ok, fold, Option, Result, sym, refl, ap, ◌∙◌, subst}
use Rattle.effects.specs.declared.Effect as effect
use Rattle.times.specs.declared.Time as time
use Rattle.reference.specs.Beliefs.{kinds, until}
use Rattle.store.specs.declared.fault.Fault.{Fault}
use Rattle.store.specs.Meaning.{Meaning}
use Rattle.order.proofs.Orders.{TimeLaws}
use Rattle.order.proofs.Splits.{until_right}
use Rattle.tree.specs.declared.Node.{Node}
use Rattle.tree.specs.declared.Side.{Side}
use Rattle.tree.specs.Trees.{Tree, leaf, node, root, operations, after_left, before_right, total, side, Kept}
use Rattle.tree.specs.Making.{Reads}
use Rattle.tree.proofs.Keeping.{same_answer}
use Rattle.questions.specs.Asking.{acted, Carries}
use Rattle.questions.proofs.Descents.{folded_append, at_node, right_answer}

module _ {E S : Type 0} (acts : E → S → S) (composed : E → E → E) (follows : (f g : E) (s : S) → acts (composed f g) s ≡ acts g (acts f s)) where
  after_acts : (x : Option E) (f : E) (s : S) → acts (after_left composed x f) s ≡ acts f (acted acts x s)
  after_acts None f s = refl
  after_acts (Some x) f s = follows x f s

  before_acts : (f : E) (x : Option E) (s : S) → acts (before_right composed f x) s ≡ acted acts x (acts f s)
  before_acts f None s = refl
  before_acts f (Some x) s = follows f x s

  total_acts : {T : Type 0} (tree : Tree E T) (s : S) → acted acts (total composed tree) s ≡ fold (λ s o. acts o.effect s) s (operations tree)
  total_acts leaf s = refl
  total_acts (node k l o r) s =
      before_acts (after_left composed (total composed l) o.effect) (total composed r) s
      ∙ ap (acted acts (total composed r)) (after_acts (total composed l) o.effect s ∙ ap (acts o.effect) (total_acts l s))
      ∙ total_acts r (acts o.effect (fold (λ s o. acts o.effect s) s (operations l)))
      ∙ sym (folded_append (λ s o. acts o.effect s) s (operations l) (o ∷ operations r))

module _ {E St T : Type 0} (e : effect.Ghosts E St) (t : time.Ghosts T) (follows : (f g : E) (s : St) → e.acts (e.composed f g) s ≡ e.acts g (e.acts f s)) (laws : TimeLaws t.upto) where
  pub carry_right : (m m' m'' : Meaning) (k : ℕ) (at : T) (from middle next : St) (got : Node E T) (known : Side E) (answer : Result St Fault) → (k ≡ 0 → ⊥) → m' ≡ m → m'' ≡ m' → Reads e t m k (Ok got) →
      t.upto got.op.time at ≡ true → ((s : Tree E T) → root s ≡ got.left → Kept e t m'.cells s → ◌≡◌ {A = Result (Side E) Fault} (Ok known) (Ok (side e t s))) →
      middle ≡ acted e.acts known.total from → next ≡ e.acts got.op.effect middle →
      Carries e t m'' got.right at next answer → Carries e t m k at from answer
  carry_right m m' m'' k at from middle next got known answer some same same' reads test whole is_middle is_next rest =
      at_node e t m k got (λ belief. fold (λ s o. e.acts o.effect s) from (until (kinds e t) at belief)) answer some reads (λ a b p is ka kb sorted.
      let here : t.upto p.time at ≡ true = subst (λ w. t.upto w.op.time at ≡ true) is test in
      let sided : known ≡ side e t a = same_answer _ _ (whole a (sym (ap (λ w. w.left) is)) (subst (λ w. Kept e t w.cells a) (sym same) ka)) in
      let one : middle ≡ fold (λ s o. e.acts o.effect s) from (operations a) = is_middle ∙ ap (λ w. acted e.acts w.total from) sided ∙ total_acts e.acts e.composed follows a from in
      let two : next ≡ e.acts p.effect (fold (λ s o. e.acts o.effect s) from (operations a)) = is_next ∙ ap (λ w. e.acts w.op.effect middle) is ∙ ap (e.acts p.effect) one in
      let three = right_answer e t m m'' got (λ belief. fold (λ s o. e.acts o.effect s) next (until (kinds e t) at belief)) answer a b p (same' ∙ same) is rest kb sorted in
      three ∙ ap Ok (ap (λ w. fold (λ s o. e.acts o.effect s) w (until (kinds e t) at (operations b))) two
      ∙ sym (folded_append (λ s o. e.acts o.effect s) from (operations a) (p ∷ until (kinds e t) at (operations b)))
      ∙ ap (fold (λ s o. e.acts o.effect s) from) (sym (until_right (kinds e t) laws at p (operations a) (operations b) here sorted))))
