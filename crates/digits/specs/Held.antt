-- What is held in an array of a fixed size: a list in front, and one byte in all that is left.
use Rattle.std.proofs.Common.{◌≡◌, ℕ, ◌-◌, ◌≤◌, List, ◌++◌, length, take, replicate, ap, ◌∙◌, arith, length-append, length-take}
use Rattle.std.proofs.lemmas.List.{length-replicate}

-- a list, and the byte b from there up to the n-th
abbrev pub padded : ℕ → ℕ → List ℕ → List ℕ
padded n b l = l ++ replicate (n - length l) b

-- an array of n bytes holds len of them, which are m at most, and is b after these
pub record Holds (m n b len : ℕ) (array : List ℕ) : Type 0 where
  pub few : len ≤ m
  pub rest : array ≡ padded n b (take len array)

-- the array is n bytes long
length_array : {m n b len : ℕ} {array : List ℕ} → m ≤ n → Holds m n b len array → length array ≡ n
length_array {m} {n} {b} {len} {array} room h =
    let held = take len array in
    let whole = ap length h.rest ∙ length-append held (replicate (n - length held) b) in
    let rest = length-replicate (n - length held) b in
    let front = length-take len array in omega arith

-- what is held is as long as it says
pub length_held : {m n b len : ℕ} {array : List ℕ} → m ≤ n → Holds m n b len array → length (take len array) ≡ len
length_held {m} {n} {b} {len} {array} room h =
    let whole = length_array room h in
    let front = length-take len array in omega arith
