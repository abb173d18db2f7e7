-- How a cell lies in bytes, most significant byte first.
use Rattle.std.specs.Prelude.{ℕ, ◌+◌, ◌*◌, List, ◌++◌, take, drop}
use Rattle.big_endian.specs.Numbers.{bytes_of, worth}
use Rattle.words.specs.declared.EffectWords.{EffectWords}
use Rattle.cells.specs.declared.Cell.{Cell}

-- the width of an effect's words
abbrev pub words_width : ℕ
words_width = 16

-- the width of a cell
abbrev pub cell_width : ℕ
cell_width = 24 + 2 * words_width

-- the bytes of an effect's words
abbrev pub words_layout : EffectWords → List ℕ
words_layout w = bytes_of 8 w.first ++ bytes_of 8 w.second

-- the bytes of a cell
unfoldable pub layout : Cell → List ℕ
layout c =
    bytes_of 8 c.time
    ++ (bytes_of 4 c.number
    ++ (bytes_of 4 c.left
    ++ (bytes_of 4 c.right
    ++ (bytes_of 4 c.height
    ++ (words_layout c.own
    ++ words_layout c.total)))))

-- the number in the bytes from place `at` on, as many as the width
abbrev pub worth_at : List ℕ → (at width : ℕ) → ℕ
worth_at bytes at width = worth (take width (drop at bytes))

-- the words of an effect in the bytes from place `at` on
abbrev pub words_at : List ℕ → (at : ℕ) → EffectWords
words_at bytes at = record { first = worth_at bytes at 8; second = worth_at bytes (at + 8) 8 }

-- the cell that the first bytes lay out: what undoes `layout`
unfoldable pub cell_of : List ℕ → Cell
cell_of bytes = record {
  time = worth_at bytes 0 8;
  number = worth_at bytes 8 4;
  left = worth_at bytes 12 4;
  right = worth_at bytes 16 4;
  height = worth_at bytes 20 4;
  own = words_at bytes 24;
  total = words_at bytes (24 + words_width);
}
