-- A cell reads back from its layout, and the bytes of a cell from the cell that they lay out.
use Rattle.std.proofs.Common.{◌≡◌, ℕ, ◌+◌, ◌^◌, ◌<◌, ◌≤◌, List, [], ◌++◌, length, get_or, take, drop, sym, refl, ap, ◌∙◌, arith, lit≤}
use Rattle.std.specs.Int.Digits.{AllBelowBase}
use Rattle.std.proofs.ByRecursion.{All-take, All-drop, All-from_get_or}
use Rattle.std.proofs.lemmas.List.{append-nil, drop_all, drop-drop, drop-take, length-drop, length-take, take-append-drop, take-take}
use Rattle.big_endian.specs.Numbers.{bytes_of, worth}
use Rattle.big_endian.proofs.Numbering.{worth_bytes, bytes_worth}
use Rattle.words.specs.declared.EffectWords.{EffectWords}
use Rattle.cells.specs.declared.Cell.{Cell}
use Rattle.cells.specs.Layout.{cell_width, layout, worth_at, cell_of}

-- Each part of a cell fits its width.
pub record FitsCell (c : Cell) : Type 0 where
  pub time : c.time < 2 ^ 64
  pub number : c.number < 2 ^ 32
  pub left : c.left < 2 ^ 32
  pub right : c.right < 2 ^ 32
  pub height : c.height < 2 ^ 32
  pub own_first : c.own.first < 2 ^ 64
  pub own_second : c.own.second < 2 ^ 64
  pub total_first : c.total.first < 2 ^ 64
  pub total_second : c.total.second < 2 ^ 64

pub length_layout : (c : Cell) → length (layout c) ≡ cell_width
unfolding layout
length_layout c = refl

abbrev words : ℕ → ℕ → EffectWords
words first second = record { first = first; second = second }

abbrev cell : ℕ → ℕ → ℕ → ℕ → ℕ → EffectWords → EffectWords → Cell
cell t n l r h own total = record { time = t; number = n; left = l; right = r; height = h; own = own; total = total }

pub same_words : (a b a' b' : ℕ) → a ≡ a' → b ≡ b' → words a b ≡ words a' b'
same_words a b a' b' p q = cc

pub same_cell : (t n l r h t' n' l' r' h' : ℕ) (a b a' b' : EffectWords) → t ≡ t' → n ≡ n' → l ≡ l' → r ≡ r' → h ≡ h' → a ≡ a' → b ≡ b' → cell t n l r h a b ≡ cell t' n' l' r' h' a' b'
same_cell t n l r h t' n' l' r' h' a b a' b' pt pn pl pr ph pa pb = cc

-- a cell reads back from its bytes
pub cell_of_layout : (c : Cell) → FitsCell c → cell_of (layout c) ≡ c
unfolding layout cell_of
cell_of_layout c fits =
    same_cell _ _ _ _ _ _ _ _ _ _ _ _ _ _
    (worth_bytes 8 c.time fits.time)
    (worth_bytes 4 c.number fits.number)
    (worth_bytes 4 c.left fits.left)
    (worth_bytes 4 c.right fits.right)
    (worth_bytes 4 c.height fits.height)
    (same_words _ _ _ _ (worth_bytes 8 c.own.first fits.own_first) (worth_bytes 8 c.own.second fits.own_second))
    (same_words _ _ _ _ (worth_bytes 8 c.total.first fits.total_first) (worth_bytes 8 c.total.second fits.total_second))

-- a part's bytes, and then what follows it, are the bytes from its place on
part_back : (bytes : List ℕ) (at width : ℕ) (rest : List ℕ) → at + width ≤ length bytes → AllBelowBase 256 bytes → rest ≡ drop (at + width) bytes → bytes_of width (worth_at bytes at width) ++ rest ≡ drop at bytes
part_back bytes at width rest within under follows =
    let part = take width (drop at bytes) in
    let long : length part ≡ width = simp (length-take, length-drop) (omega arith) in
    let back : bytes_of width (worth part) ≡ part = bytes_worth width part long (All-take (λ b. b < 256) width (drop at bytes) (All-drop (λ b. b < 256) at bytes under)) in
    let past : rest ≡ drop width (drop at bytes) = follows ∙ sym (drop-drop width at bytes) in
    ap (λ (p : List ℕ). p ++ rest) back ∙ ap (λ (p : List ℕ). part ++ p) past ∙ take-append-drop width (drop at bytes)

-- as many bytes as a cell has come back from the cell that they lay out
pub layout_cell_of : (bytes : List ℕ) → length bytes ≡ cell_width → ((i : ℕ) → get_or bytes i 0 < 256) → layout (cell_of bytes) ≡ bytes
unfolding layout cell_of
layout_cell_of bytes long small =
    let under : AllBelowBase 256 bytes = All-from_get_or (λ b. b < 256) bytes 0 (λ i _. small i) in
    let within : (n : ℕ) → n ≤ cell_width → n ≤ length bytes = λ n low. omega arith in
    let end : [] ≡ drop 56 bytes = sym (drop_all 56 bytes (omega arith)) in
    let from_48 = sym (append-nil _) ∙ part_back bytes 48 8 [] (within 56 (lit≤ tt)) under end in
    let from_40 = part_back bytes 40 8 _ (within 48 (lit≤ tt)) under from_48 in
    let from_32 = part_back bytes 32 8 _ (within 40 (lit≤ tt)) under from_40 in
    let from_24 = part_back bytes 24 8 _ (within 32 (lit≤ tt)) under from_32 in
    let from_20 = part_back bytes 20 4 _ (within 24 (lit≤ tt)) under from_24 in
    let from_16 = part_back bytes 16 4 _ (within 20 (lit≤ tt)) under from_20 in
    let from_12 = part_back bytes 12 4 _ (within 16 (lit≤ tt)) under from_16 in
    let from_8 = part_back bytes 8 4 _ (within 12 (lit≤ tt)) under from_12 in
    part_back bytes 0 8 _ (within 8 (lit≤ tt)) under from_8

worth_front : (bytes : List ℕ) (at most width : ℕ) → width ≤ most → worth_at (take (at + most) bytes) at width ≡ worth_at bytes at width
worth_front bytes at most width low = ap (λ (p : List ℕ). worth (take width p)) (drop-take at most bytes) ∙ ap worth (take-take width most (drop at bytes) low)

-- a cell lies in its first bytes
pub cell_of_front : (bytes : List ℕ) → cell_of (take cell_width bytes) ≡ cell_of bytes
unfolding cell_of
cell_of_front bytes =
    same_cell _ _ _ _ _ _ _ _ _ _ _ _ _ _
    (worth_front bytes 0 56 8 (lit≤ tt))
    (worth_front bytes 8 48 4 (lit≤ tt))
    (worth_front bytes 12 44 4 (lit≤ tt))
    (worth_front bytes 16 40 4 (lit≤ tt))
    (worth_front bytes 20 36 4 (lit≤ tt))
    (same_words _ _ _ _ (worth_front bytes 24 32 8 (lit≤ tt)) (worth_front bytes 32 24 8 (lit≤ tt)))
    (same_words _ _ _ _ (worth_front bytes 40 16 8 (lit≤ tt)) (worth_front bytes 48 8 8 (lit≤ tt)))
