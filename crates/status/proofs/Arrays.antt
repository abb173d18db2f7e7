-- What `map` and `from_fn` make of an array, as a list, where no call changes the closure.
use Rattle.std.proofs.Common.{◌≡◌, ℕ, zero, suc, ◌+◌, ◌<◌, ◌≤◌, List, map, length, get_or, sym, refl, ap, ◌∙◌, subst, ⊎_elim, arith}
use Rattle.std.proofs.lemmas.Bool.{cases_lt}
use Rattle.std.proofs.lemmas.List.{same_lists, length-map, get_or-map}
use Rattle.std.specs.Array.{MapsFrom, IsMapOf, IsFromFnResultFrom, IsFromFnResult}
use Rattle.std.specs.Fn.{Called}
use denote.Param.Members.{Mut}

-- each call answers what h does
module _ {F A B : Type 0} (g : Mut F (A × Unit {0}) B) (h : A → B) (f : F) (answers : (q : F) (x : A) (y : B) → Called g f (x, tt) y q → (q ≡ f) × (y ≡ h x)) where
  mapped_from : (xs : List A) (ys : List B) (n i : ℕ) (p : F) → p ≡ f → MapsFrom g p xs ys i n → i + n ≡ length xs → (k : ℕ) (d : B) → i ≤ k → k < length xs → get_or ys k d ≡ get_or (map h xs) k d
  mapped_from xs ys zero i p same each all k d low high = absurd (omega arith)
  mapped_from xs ys (suc n) i p same each all k d low high =
      let one = answers each.0 each.1 each.2 (subst (λ q. Called g q (each.1, tt) each.2 each.0) same each.5) in
      let here : i < length xs = omega arith in
      ⊎_elim
      (λ later. mapped_from xs ys n (i + 1) each.0 one.0 each.6 (omega arith) k d (omega arith) high)
      (λ now.
      let at : k ≡ i = omega arith in
      ap (λ j. get_or ys j d) at ∙ each.4.1 d ∙ one.1 ∙ ap h (sym (each.3.1 each.1)) ∙ sym (get_or-map h xs i each.1 d here) ∙ ap (λ j. get_or (map h xs) j d) (sym at))
      (cases_lt i k)

pub mapped : {F A B : Type 0} {g : Mut F (A × Unit {0}) B} (h : A → B) {f : F} {xs : List A} {ys : List B} {n : ℕ} → IsMapOf g f xs ys n → length xs ≡ n → ((q : F) (x : A) (y : B) → Called g f (x, tt) y q → (q ≡ f) × (y ≡ h x)) → ys ≡ map h xs
mapped {g = g} h {f = f} {xs = xs} {ys = ys} {n = n} items long answers =
    same_lists ys (map h xs) (items.long ∙ sym long ∙ sym (length-map xs h))
    (λ k d inside. mapped_from g h f answers xs ys n 0 f refl items.each (omega (arith, long)) k d (omega arith) (omega (arith, items.long, long)))

-- each call answers what a list has at its index
module _ {F B : Type 0} (g : Mut F (ℕ × Unit {0}) B) (want : List B) (f : F) (answers : (q : F) (i : ℕ) (y d : B) → i < length want → Called g f (i, tt) y q → (q ≡ f) × (y ≡ get_or want i d)) where
  made_from : (ys : List B) (n i : ℕ) (p : F) → p ≡ f → IsFromFnResultFrom g p ys i n → i + n ≡ length want → (k : ℕ) (d : B) → i ≤ k → k < length want → get_or ys k d ≡ get_or want k d
  made_from ys zero i p same each all k d low high = absurd (omega arith)
  made_from ys (suc n) i p same each all k d low high =
      let here : i < length want = omega arith in
      let one = answers each.0 i each.1 d here (subst (λ q. Called g q (i, tt) each.1 each.0) same each.3) in
      ⊎_elim
      (λ later. made_from ys n (i + 1) each.0 one.0 each.4 (omega arith) k d (omega arith) high)
      (λ now. let at : k ≡ i = omega arith in ap (λ j. get_or ys j d) at ∙ each.2.1 d ∙ one.1 ∙ ap (λ j. get_or want j d) (sym at))
      (cases_lt i k)

pub made : {F B : Type 0} {g : Mut F (ℕ × Unit {0}) B} (want : List B) {f : F} {ys : List B} {n : ℕ} → IsFromFnResult g f ys n → length want ≡ n → ((q : F) (i : ℕ) (y d : B) → i < length want → Called g f (i, tt) y q → (q ≡ f) × (y ≡ get_or want i d)) → ys ≡ want
made {g = g} want {f = f} {ys = ys} {n = n} items long answers =
    same_lists ys want (items.long ∙ sym long)
    (λ k d inside. made_from g want f answers ys n 0 f refl items.each (omega (arith, long)) k d (omega arith) (omega (arith, items.long, long)))
