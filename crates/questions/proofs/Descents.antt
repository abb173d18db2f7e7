-- A descent to one side of a node: what is asked of the whole, by what is asked of that side.
use Rattle.std.proofs.Common.{◌≡◌, ℕ, Bool, true, false, List, [], ◌∷◌, ◌++◌, Some, None, Ok, Err, fold, Option, Result, sym, refl, ap, ◌∙◌, subst, append-nil}
use Rattle.std.specs.Option.{option_or}
use Rattle.effects.specs.declared.Effect as effect
use Rattle.times.specs.declared.Time as time
use Rattle.reference.specs.declared.Operation.{Operation}
use Rattle.reference.specs.Beliefs.{Belief, kinds, before, until, latest}
use Rattle.store.specs.declared.fault.Fault.{Fault}
use Rattle.store.specs.Meaning.{Meaning}
use Rattle.order.specs.Order.{Sorted, has}
use Rattle.order.proofs.Orders.{TimeLaws}
use Rattle.order.proofs.Splits.{sorted_left, sorted_right, until_right, until_left, has_right, has_on_left, has_here}
use Rattle.tree.specs.declared.Node.{Node}
use Rattle.tree.specs.Trees.{Tree, leaf, node, operations, side, node_of, Kept}
use Rattle.tree.specs.Making.{Reads}
use Rattle.tree.proofs.Keeping.{refused, same_answer}
use Rattle.tree.proofs.Makings.{read_as}
use Rattle.questions.specs.Asking.{Answers, Lasts, Finds}

pub folded_append : {A B : Type 0} (f : B → A → B) (b : B) (xs ys : List A) → fold f b (xs ++ ys) ≡ fold f (fold f b xs) ys
folded_append f b [] ys = refl
folded_append f b (x ∷ xs) ys = folded_append f (f b x) xs ys

module _ {E St T : Type 0} (e : effect.Ghosts E St) (t : time.Ghosts T) where
  -- what is answered at a node with its sides a and b is answered at its root
  pub at_node : {A : Type 0} (m : Meaning) (k : ℕ) (got : Node E T) (asked : Belief E T → A) (answer : Result A Fault) → (k ≡ 0 → ⊥) → Reads e t m k (Ok got) →
      ((a b : Tree E T) (p : Operation E T) → got ≡ node_of e t (side e t a) p (side e t b) → Kept e t m.cells a → Kept e t m.cells b → Sorted (kinds e t) (operations a ++ (p ∷ operations b)) →
      answer ≡ Ok (asked (operations a ++ (p ∷ operations b)))) →
      Answers e t m k asked answer
  at_node m k got asked answer some reads h leaf at kept sorted = absurd (some (sym at))
  at_node m k got asked answer some reads h (node j a p b) at kept sorted = h a b p (read_as e t m k got j a b p reads at kept) kept.5 kept.6 sorted

  -- what a side of it was asked
  pub right_answer : {A : Type 0} (m m' : Meaning) (got : Node E T) (asked : Belief E T → A) (answer : Result A Fault) (a b : Tree E T) (p : Operation E T) →
      m' ≡ m → got ≡ node_of e t (side e t a) p (side e t b) → Answers e t m' got.right asked answer →
      Kept e t m.cells b → Sorted (kinds e t) (operations a ++ (p ∷ operations b)) → answer ≡ Ok (asked (operations b))
  right_answer m m' got asked answer a b p same is h kept sorted =
      subst (λ w. Answers e t m w.right asked answer) is (subst (λ w. Answers e t w got.right asked answer) same h) b refl kept (sorted_right (kinds e t) (operations a) (operations b) p sorted)

  pub left_answer : {A : Type 0} (m m' : Meaning) (got : Node E T) (asked : Belief E T → A) (answer : Result A Fault) (a b : Tree E T) (p : Operation E T) →
      m' ≡ m → got ≡ node_of e t (side e t a) p (side e t b) → Answers e t m' got.left asked answer →
      Kept e t m.cells a → Sorted (kinds e t) (operations a ++ (p ∷ operations b)) → answer ≡ Ok (asked (operations a))
  left_answer m m' got asked answer a b p same is h kept sorted =
      subst (λ w. Answers e t m w.left asked answer) is (subst (λ w. Answers e t w got.left asked answer) same h) a refl kept (sorted_left (kinds e t) (operations a) (p ∷ operations b) sorted)

  module _ (laws : TimeLaws t.upto) where
    -- what is asked of the operations up to a time that the node is after is asked of its left side
    pub until_left_answer : {A : Type 0} (m m' : Meaning) (k : ℕ) (at : T) (got : Node E T) (asked : Belief E T → A) (answer : Result A Fault) → (k ≡ 0 → ⊥) → m' ≡ m → Reads e t m k (Ok got) →
        t.upto got.op.time at ≡ false → Answers e t m' got.left (λ belief. asked (until (kinds e t) at belief)) answer → Answers e t m k (λ belief. asked (until (kinds e t) at belief)) answer
    until_left_answer m m' k at got asked answer some same reads test rest =
        at_node m k got (λ belief. asked (until (kinds e t) at belief)) answer some reads (λ a b p is ka kb sorted.
        let here : t.upto p.time at ≡ false = subst (λ w. t.upto w.op.time at ≡ false) is test in
        left_answer m m' got (λ belief. asked (until (kinds e t) at belief)) answer a b p same is rest ka sorted
        ∙ ap (λ w. Ok (asked w)) (sym (until_left (kinds e t) laws at p (operations a) (operations b) here sorted ∙ append-nil (until (kinds e t) at (operations a)))))

    -- the last one, if there is one, and else the one before
    last_some : (x other : Option (ℕ × T)) (o : Operation E T) (belief : Belief E T) →
        fold (λ _ o. Some (o.number, o.time)) x (o ∷ belief) ≡ option_or (fold (λ _ o. Some (o.number, o.time)) None (o ∷ belief)) other
    last_some x other o [] = refl
    last_some x other o (p ∷ belief) = last_some x other p belief

    last_or : (other : Option (ℕ × T)) (belief : Belief E T) → fold (λ _ o. Some (o.number, o.time)) other belief ≡ option_or (fold (λ _ o. Some (o.number, o.time)) None belief) other
    last_or other [] = refl
    last_or other (o ∷ belief) = last_some other other o belief

    pub last_right : (m m' : Meaning) (k : ℕ) (at : T) (got : Node E T) (later last : Option (ℕ × T)) → (k ≡ 0 → ⊥) → m' ≡ m → Reads e t m k (Ok got) →
        t.upto got.op.time at ≡ true → Lasts e t m' got.right at (Ok later) → last ≡ option_or later (Some (got.op.number, got.op.time)) → Lasts e t m k at (Ok last)
    last_right m m' k at got later last some same reads test rest is_last =
        at_node m k got (λ belief. latest (kinds e t) belief at) (Ok last) some reads (λ a b p is ka kb sorted.
        let here : t.upto p.time at ≡ true = subst (λ w. t.upto w.op.time at ≡ true) is test in
        let own : Option (ℕ × T) = Some (p.number, p.time) in
        let is_later : later ≡ latest (kinds e t) (operations b) at = same_answer _ _ (right_answer m m' got (λ belief. latest (kinds e t) belief at) (Ok later) a b p same is rest kb sorted) in
        let is_own : last ≡ option_or later own = subst (λ w. last ≡ option_or later (Some (w.op.number, w.op.time))) is is_last in
        let rest = until (kinds e t) at (operations b) in
        ap Ok (is_own ∙ ap (λ w. option_or w own) is_later ∙ sym (last_or own rest) ∙ sym (folded_append (λ _ o. Some (o.number, o.time)) None (operations a) (p ∷ rest))
        ∙ ap (λ w. fold (λ _ o. Some (o.number, o.time)) None w) (sym (until_right (kinds e t) laws at p (operations a) (operations b) here sorted))))

    -- no descent to the right is refused
    pub right_stop : {A : Type 0} (m m' : Meaning) (k : ℕ) (got : Node E T) (asked asked' : Belief E T → A) (answer : Result A Fault) (f : Fault) → (k ≡ 0 → ⊥) → m' ≡ m → Reads e t m k (Ok got) →
        Answers e t m' got.right asked' (Err f) → Answers e t m k asked answer
    right_stop m m' k got asked asked' answer f some same reads rest =
        at_node m k got asked answer some reads (λ a b p is ka kb sorted. refused f _ (right_answer m m' got asked' (Err f) a b p same is rest kb sorted))

    pub find_right : (m m' : Meaning) (k : ℕ) (x : Operation E T) (got : Node E T) (answer : Result Bool Fault) → (k ≡ 0 → ⊥) → m' ≡ m → Reads e t m k (Ok got) →
        before (kinds e t) got.op x ≡ true → Finds e t m' got.right x answer → Finds e t m k x answer
    find_right m m' k x got answer some same reads test rest =
        at_node m k got (has (kinds e t) x.number x.time) answer some reads (λ a b p is ka kb sorted.
        let here : before (kinds e t) p x ≡ true = subst (λ w. before (kinds e t) w.op x ≡ true) is test in
        right_answer m m' got (has (kinds e t) x.number x.time) answer a b p same is rest kb sorted ∙ ap Ok (sym (has_right (kinds e t) laws x p (operations a) (operations b) sorted here)))

    pub find_left : (m m' : Meaning) (k : ℕ) (x : Operation E T) (got : Node E T) (answer : Result Bool Fault) → (k ≡ 0 → ⊥) → m' ≡ m → Reads e t m k (Ok got) →
        before (kinds e t) x got.op ≡ true → Finds e t m' got.left x answer → Finds e t m k x answer
    find_left m m' k x got answer some same reads test rest =
        at_node m k got (has (kinds e t) x.number x.time) answer some reads (λ a b p is ka kb sorted.
        let here : before (kinds e t) x p ≡ true = subst (λ w. before (kinds e t) x w.op ≡ true) is test in
        left_answer m m' got (has (kinds e t) x.number x.time) answer a b p same is rest ka sorted ∙ ap Ok (sym (has_on_left (kinds e t) laws x p (operations a) (operations b) sorted here)))

    pub find_here : (m : Meaning) (k : ℕ) (x : Operation E T) (got : Node E T) → (k ≡ 0 → ⊥) → Reads e t m k (Ok got) →
        before (kinds e t) got.op x ≡ false → before (kinds e t) x got.op ≡ false → Finds e t m k x (Ok true)
    find_here m k x got some reads test other =
        at_node m k got (has (kinds e t) x.number x.time) (Ok true) some reads (λ a b p is ka kb sorted.
        let here : before (kinds e t) p x ≡ false = subst (λ w. before (kinds e t) w.op x ≡ false) is test in
        let there : before (kinds e t) x p ≡ false = subst (λ w. before (kinds e t) x w.op ≡ false) is other in
        ap Ok (sym (has_here (kinds e t) laws x p (operations a) (operations b) sorted here there)))
