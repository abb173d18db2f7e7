-- The lines of an input, joined again, are the input.
use Rattle.std.proofs.Common.{◌≡◌, ℕ, ◌+◌, eqb, ◌⊎◌, List, [], ◌∷◌, ◌++◌, length, sym, refl, ap, ◌∙◌, subst, inl, inr, ⊎_elim, arith}
use Rattle.std.proofs.lemmas.Bool.{cases_eq, eq-eqb, ne_eqb, cond-true, cond-false}
use Rattle.text.specs.Cut.{Line, widened, lines_from, joined_lines, Placed, Whole}

abbrev Joined : List ℕ → List Line → Type 0
Joined bs ls = (joined_lines ls ≡ bs) ⊎ (joined_lines ls ≡ bs ++ (10 ∷ []))

abbrev Good : ℕ → List ℕ → List Line → Type 0
Good p bs ls = Joined bs ls × Placed p ls

one_more : (b : ℕ) (bs : List ℕ) (ls ls' : List Line) → joined_lines ls' ≡ b ∷ joined_lines ls → Joined bs ls → Joined (b ∷ bs) ls'
one_more b bs ls ls' e (inl h) = inl (e ∙ ap (λ l. b ∷ l) h)
one_more b bs ls ls' e (inr h) = inr (e ∙ ap (λ l. b ∷ l) h)

ended : (p b : ℕ) (bs : List ℕ) (ls : List Line) → b ≡ 10 → Good (p + 1) bs ls → Good p (b ∷ bs) (record { place = p; bytes = [] } ∷ ls)
ended p b bs ls is h =
    let at : p + 1 ≡ p + 0 + 1 = omega arith in
    (one_more b bs ls (record { place = p; bytes = [] } ∷ ls) (ap (λ x. x ∷ joined_lines ls) (sym is)) h.0, (refl, tt, subst (λ q. Placed q ls) at h.1))

wider : (p b : ℕ) (bs : List ℕ) (ls : List Line) → (b ≡ 10 → ⊥) → Good (p + 1) bs ls → Good p (b ∷ bs) (widened p b ls)
wider p b bs [] not h =
    (⊎_elim (λ e. inr (ap (λ l. b ∷ (l ++ (10 ∷ []))) e)) (λ e. absurd (short bs e)) h.0, (refl, (not, tt), tt))
  where
    short : (bs : List ℕ) → [] ≡ bs ++ (10 ∷ []) → ⊥
    short [] e = let z : ◌≡◌ {A = ℕ} 0 1 = cc in omega arith
    short (x ∷ xs) e = let z : ◌≡◌ {A = ℕ} 0 1 = cc in omega arith
wider p b bs (l ∷ ls) not h =
    let at : p + 1 + length l.bytes + 1 ≡ p + length (b ∷ l.bytes) + 1 = omega arith in
    (one_more b bs (l ∷ ls) (widened p b (l ∷ ls)) refl h.0, (refl, (not, h.1.1), subst (λ q. Placed q ls) at h.1.2))

good : (p : ℕ) (bs : List ℕ) → Good p bs (lines_from p bs)
good p [] = (inl refl, tt)
good p (b ∷ bs) =
    ⊎_elim
    (λ is. subst (Good p (b ∷ bs)) (sym (cond-true (eqb b 10) _ _ (eq-eqb b 10 is))) (ended p b bs (lines_from (p + 1) bs) is (good (p + 1) bs)))
    (λ not. subst (Good p (b ∷ bs)) (sym (cond-false (eqb b 10) _ _ (ne_eqb b 10 not))) (wider p b bs (lines_from (p + 1) bs) not (good (p + 1) bs)))
    (cases_eq b 10)

pub lines_whole : (bs : List ℕ) → Whole bs (lines_from 0 bs)
lines_whole bs = let h = good 0 bs in record { joined = h.0; placed = h.1 }
