-- What an accepted claim and an accepted put tell of a store, and the room that is left after one.
use Rattle.std.proofs.Common.{◌≡◌, ℕ, ◌+◌, ◌-◌, ◌≤◌, List, [], ◌∷◌, ◌++◌, length, Some, None, Ok, Option, Result, refl, ap, arith}
use Rattle.std.proofs.lemmas.List.{append_assoc, append-nil, length-append}
use Rattle.cells.specs.declared.Cell.{Cell}
use Rattle.store.specs.declared.fault.Fault.{Fault}
use Rattle.store.specs.Meaning.{Meaning, fault_of, unless, claimed, put_answer, with_cells, put_unless, after_put}

-- n cells more may be put and find space
pub record Room (m : Meaning) (n : ℕ) : Type 0 where
  pub may : n ≤ m.allowance
  pub can : n ≤ m.space

-- meanings with the same parts
pub same_meaning : (cells cells' : List Cell) (allowance allowance' space space' : ℕ) → cells ≡ cells' → allowance ≡ allowance' → space ≡ space'
    → ◌≡◌ {A = Meaning} (record { cells = cells; allowance = allowance; space = space }) (record { cells = cells'; allowance = allowance'; space = space' })
same_meaning cells cells' allowance allowance' space space' p q r = cc

-- an answer that is accepted has no fault, and is the answer
accepted_unless : {A : Type 0} (fault : Option Fault) (given answer : A) → ◌≡◌ {A = Result A Fault} (Ok given) (unless fault answer) → (fault ≡ None) × (given ≡ answer)
accepted_unless None given answer ok = (refl, cc)
accepted_unless (Some f) given answer ok = absurd (let z : ◌≡◌ {A = ℕ} 0 1 = cc in omega arith)

-- an accepted claim has no fault
pub claim_accepted : (m : Meaning) (n : ℕ) → ◌≡◌ {A = Result (Unit {0}) Fault} (Ok tt) (claimed m n) → fault_of m n ≡ None
claim_accepted m n ok = (accepted_unless (fault_of m n) tt tt ok).0

-- an accepted put has no fault, and answers the new length
pub put_accepted : (m : Meaning) (number : ℕ) → Ok number ≡ put_answer m → (fault_of m 1 ≡ None) × (number ≡ length m.cells + 1)
put_accepted m number ok = accepted_unless (fault_of m 1) number (length m.cells + 1) ok

-- no fault is room, and room is no fault
pub room_granted : (m : Meaning) (n : ℕ) → fault_of m n ≡ None → Room m n
room_granted m n free = record { may = grind arith; can = grind arith }

pub free_granted : (m : Meaning) (n : ℕ) → Room m n → fault_of m n ≡ None
free_granted m n room = grind arith

-- room for n + 1 cells lets one put through
pub room_put : (m : Meaning) (n : ℕ) → Room m (n + 1) → fault_of m 1 ≡ None
room_put m n room = free_granted m 1 (record { may = omega arith; can = omega arith })

-- and what the put leaves has room for n
pub room_after : (m : Meaning) (n : ℕ) (more : List Cell) → Room m (length more + n) → Room (with_cells m more) n
room_after m n more room = record { may = omega arith; can = omega arith }

-- less room than there is
pub room_less : (m : Meaning) (n k : ℕ) → k ≤ n → Room m n → Room m k
room_less m n k less room = record { may = omega arith; can = omega arith }

-- what a put without a fault leaves
pub after_free : (m : Meaning) (c : Cell) → fault_of m 1 ≡ None → after_put m c ≡ with_cells m (c ∷ [])
after_free m c free = ap (λ (fault : Option Fault). put_unless fault m c) free

-- what a put with room answers
pub answer_free : (m : Meaning) → fault_of m 1 ≡ None → put_answer m ≡ Ok (length m.cells + 1)
answer_free m free = ap (λ (fault : Option Fault). unless fault (length m.cells + 1)) free

-- no cells more
pub with_none : (m : Meaning) → with_cells m [] ≡ m
with_none m =
    let cells : m.cells ++ [] ≡ m.cells = append-nil m.cells in
    let allowance : m.allowance - 0 ≡ m.allowance = omega arith in
    let space : m.space - 0 ≡ m.space = omega arith in
    same_meaning _ _ _ _ _ _ cells allowance space

-- cells more, and then others
pub with_more : (m : Meaning) (first second : List Cell) → with_cells (with_cells m first) second ≡ with_cells m (first ++ second)
with_more m first second =
    let both = length-append first second in
    let allowance : m.allowance - length first - length second ≡ m.allowance - length (first ++ second) = omega arith in
    let space : m.space - length first - length second ≡ m.space - length (first ++ second) = omega arith in
    same_meaning _ _ _ _ _ _ (append_assoc m.cells first second) allowance space
