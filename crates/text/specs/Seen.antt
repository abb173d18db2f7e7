-- What a reader has yet to read, and what an item holds.
use Rattle.std.specs.Prelude.{◌≡◌, ℕ, List, [], ◌∷◌, drop, Some, None, Option}
use Rattle.std.specs.Borrow.{Bor}
use Rattle.text.specs.declared.reader.Item.{Item}
use Rattle.text.specs.declared.reader.Item.TheVariants.{Remark, Frame}
use Rattle.text.specs.declared.reader.Reader.{Reader}
use Rattle.text.specs.Cut.{Line, Part, remark, frame, part, lines_from}

-- the lines that the reader has not given yet
abbrev pub unread : Reader → List Line
unread r = lines_from r.limits.at (drop r.limits.at r.input.now)

abbrev pub held : Item → Part
held (Remark p t) = remark (record { place = p; bytes = t.now })
held (Frame p t) = frame (record { place = p; bytes = t.now })

-- the item is the first of the lines, as the remark or the frame that it is, and rest are the others; None where there is none
abbrev pub Takes : List Line → Option Item → List Line → Type 0
Takes [] None rest = rest ≡ []
Takes [] (Some i) rest = ⊥
Takes (l ∷ ls) None rest = ⊥
Takes (l ∷ ls) (Some i) rest = (held i ≡ part l) × (rest ≡ ls)

-- the place and the bytes are those of the first of the lines, and rest are the others; None where there is none
abbrev pub Cuts : List Line → Option (ℕ × Bor (List ℕ)) → List Line → Type 0
Cuts ls None rest = (ls ≡ []) × (rest ≡ [])
Cuts ls (Some (place, text)) rest = ls ≡ record { place = place; bytes = text.now } ∷ rest
