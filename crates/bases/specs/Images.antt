-- What an image means, and what its bytes are.
use Rattle.std.specs.Prelude.{◌≡◌, ℕ, ◌*◌, List, length, Some, None, vec_items, Option}
use Rattle.big_endian.specs.Numbers.{overwritten}
use Rattle.cells.specs.Layout.{cell_width, layout}
use Rattle.cells.specs.declared.Cell.{Cell}
use Rattle.store.specs.Meaning.{Meaning, fault_of}
use Rattle.store.specs.declared.fault.Fault.{Fault}
use Rattle.bases.specs.Bases.{base}
use Rattle.bases.specs.Layouts.{cells_in, image_bytes}
use Rattle.bases.specs.declared.image.Image.{Image}

abbrev pub image_buffer : Image → List ℕ
image_buffer i = vec_items i.bytes

abbrev pub image_meaning : Image → Meaning
image_meaning i = base (cells_in i.len (image_buffer i)) i.capacity

-- an image's bytes are the layouts of its cells, followed by the bytes that were handed in from there on
abbrev pub Laid : (handed : List ℕ) → Image → Type 0
Laid handed i = image_buffer i ≡ image_bytes (image_meaning i).cells handed

-- bytes with a cell written at a place, unless there is a fault
abbrev pub written_unless : Option Fault → List ℕ → (at : ℕ) → Cell → List ℕ
written_unless None bytes at c = overwritten bytes at (layout c)
written_unless (Some fault) bytes at c = bytes

-- the bytes that a put leaves: an accepted one writes the place of the new cell, and no other byte
abbrev pub put_bytes : Meaning → List ℕ → Cell → List ℕ
put_bytes m bytes c = written_unless (fault_of m 1) bytes (length m.cells * cell_width) c
