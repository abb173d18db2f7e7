-- What the text of a line holds while bytes are written into it, and at the end.
use Rattle.std.proofs.Common.{◌≡◌, ℕ, suc, ◌+◌, ◌-◌, ◌*◌, ◌/◌, ◌%◌, ◌<◌, ◌≤◌, List, [], ◌∷◌, ◌++◌, length, get_or, take, set, replicate, sym, refl, ap, ◌∙◌, append_assoc, arith, length-append, length-take}
use Rattle.std.proofs.lemmas.List.{take_more, take_all, take_at}
use Rattle.std.proofs.Math.Seq.{set-append_seam}
use Rattle.digits.specs.Hex.{digit_of, encoded}
use Rattle.digits.specs.Held.{Holds, padded}
use Rattle.digits.proofs.Round.{length_encoded}

encoded_append : (xs ys : List ℕ) → encoded (xs ++ ys) ≡ encoded xs ++ encoded ys
encoded_append [] ys = refl
encoded_append (x ∷ xs) ys = ap (λ l. digit_of (x / 16) ∷ digit_of (x % 16) ∷ l) (encoded_append xs ys)

-- two more digits, where two of the bytes that pad a list stood
two_put : (l : List ℕ) (n b k m x y : ℕ) → length l ≡ k → n ≡ k + 2 + m → set (set (padded n b l) k x) (k + 1) y ≡ padded n b (l ++ x ∷ y ∷ [])
two_put l n b k m x y long room =
    let r = replicate m b in
    let left : n - length l ≡ suc (suc m) = omega arith in
    let after : n - length (l ++ x ∷ y ∷ []) ≡ m = (let whole = length-append l (x ∷ y ∷ []) in omega arith) in
    let one : length (l ++ x ∷ []) ≡ k + 1 = (let whole = length-append l (x ∷ []) in omega arith) in
    ap (λ c. set (set (l ++ replicate c b) k x) (k + 1) y) left
    ∙ ap (λ c. set (set (l ++ b ∷ b ∷ r) c x) (k + 1) y) (sym long)
    ∙ ap (λ t. set t (k + 1) y) (set-append_seam l b (b ∷ r) x ∙ sym (append_assoc l (x ∷ []) (b ∷ r)))
    ∙ ap (λ c. set ((l ++ x ∷ []) ++ b ∷ r) c y) (sym one)
    ∙ set-append_seam (l ++ x ∷ []) b r y
    ∙ append_assoc l (x ∷ []) (y ∷ r)
    ∙ sym (append_assoc l (x ∷ y ∷ []) r)
    ∙ ap (λ c. (l ++ x ∷ y ∷ []) ++ replicate c b) (sym after)

-- the digits x and y of one more byte in a text that holds those of the bytes before it
pub byte_written : (text bs : List ℕ) (i x y : ℕ) → i < length bs → length bs ≤ 32 → x ≡ digit_of (get_or bs i 0 / 16) → y ≡ digit_of (get_or bs i 0 % 16) →
    text ≡ padded 65 10 (encoded (take i bs)) → set (set text (2 * i) x) (2 * i + 1) y ≡ padded 65 10 (encoded (take (i + 1) bs))
byte_written text bs i x y inside short is also before =
    let so_far = encoded (take i bs) in
    let front = length-take i bs in
    let long : length so_far ≡ 2 * i = omega (arith, length_encoded (take i bs)) in
    let more : encoded (take (i + 1) bs) ≡ so_far ++ x ∷ y ∷ [] =
    ap encoded (take_more bs i 0 inside) ∙ encoded_append (take i bs) (get_or bs i 0 ∷ []) ∙ ap (λ d. so_far ++ d ∷ digit_of (get_or bs i 0 % 16) ∷ []) (sym is) ∙ ap (λ d. so_far ++ x ∷ d ∷ []) (sym also) in
    ap (λ t. set (set t (2 * i) x) (2 * i + 1) y) before
    ∙ two_put so_far 65 10 (2 * i) (65 - (2 * i + 2)) x y long (omega arith)
    ∙ ap (padded 65 10) (sym more)

-- all bytes are written
pub all_written : (text bs : List ℕ) (i : ℕ) → length bs ≤ i → text ≡ padded 65 10 (encoded (take i bs)) → text ≡ padded 65 10 (encoded bs)
all_written text bs i far before = before ∙ ap (λ l. padded 65 10 (encoded l)) (take_all i bs far)

-- the digits in such a text
pub digits_in : (text bs : List ℕ) (len : ℕ) → len ≡ 2 * length bs → text ≡ padded 65 10 (encoded bs) → take len text ≡ encoded bs
digits_in text bs len long is =
    ap (take len) is ∙ take_at (encoded bs) (replicate (65 - length (encoded bs)) 10) len (omega (arith, length_encoded bs))

pub held_in : (text bs : List ℕ) (len : ℕ) → length bs ≤ 32 → len ≡ 2 * length bs → text ≡ padded 65 10 (encoded bs) → Holds 64 65 10 len text
held_in text bs len short long is = record { few = omega arith; rest = is ∙ ap (padded 65 10) (sym (digits_in text bs len long is)) }
