-- Beliefs as rows: what a row's root reads as, and one row more.
use Rattle.std.proofs.Common.{◌≡◌, ℕ, ◌+◌, ◌<◌, ◌≤◌, List, [], ◌∷◌, ◌++◌, map, length, get_or, take, set, sym, refl, ap, ◌∙◌, subst, arith}
use Rattle.std.specs.List.{AllByRecursion}
use Rattle.std.proofs.lemmas.List.{length-map, length-take-le, get_or-map, get_or-take, take_more_set, map_push}
use Rattle.std.proofs.ByRecursion.{All-from_get_or}

map_same : {A B : Type 0} (f g : A → B) (xs : List A) → AllByRecursion (λ x. f x ≡ g x) xs → map f xs ≡ map g xs
map_same f g [] h = refl
map_same f g (x ∷ xs) h = ap (λ y. y ∷ map f xs) h.0 ∙ ap (◌∷◌ (g x)) (map_same f g xs h.1)

module _ {R B : Type 0} (rows : List R) (latest : ℕ) (inside : latest < length rows) where
  pub length_rows : (f : R → B) → length (map f (take (latest + 1) rows)) ≡ latest + 1
  length_rows f = length-map (take (latest + 1) rows) f ∙ length-take-le (latest + 1) rows (omega arith)

  pub row_at : (f : R → B) (b : ℕ) (d : R) (none : B) → b ≤ latest → get_or (map f (take (latest + 1) rows)) b none ≡ f (get_or rows b d)
  row_at f b d none l =
      get_or-map f (take (latest + 1) rows) b d none (omega (arith, length-take-le (latest + 1) rows (omega arith)))
      ∙ ap f (get_or-take (latest + 1) rows b d (omega arith))

  -- rows that read as before
  pub rows_same : (f g : R → B) (d : R) → ((b : ℕ) → b ≤ latest → g (get_or rows b d) ≡ f (get_or rows b d)) → map g (take (latest + 1) rows) ≡ map f (take (latest + 1) rows)
  rows_same f g d same =
      map_same g f (take (latest + 1) rows)
      (All-from_get_or (λ x. g x ≡ f x) (take (latest + 1) rows) d
      (λ i l.
      let small : i < latest + 1 = omega (arith, length-take-le (latest + 1) rows (omega arith)) in
      subst (λ x. g x ≡ f x) (sym (get_or-take (latest + 1) rows i d small)) (same i (omega arith))))

  -- one row more
  pub rows_push : (f : R → B) (row : R) → latest + 1 < length rows → map f (take (latest + 1 + 1) (set rows (latest + 1) row)) ≡ map f (take (latest + 1) rows) ++ (f row ∷ [])
  rows_push f row more = ap (map f) (take_more_set rows (latest + 1) row more) ∙ map_push f (take (latest + 1) rows) row
