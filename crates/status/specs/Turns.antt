-- What transitions do to a status.
use Rattle.std.proofs.Common.{◌∙◌}
use Rattle.std.specs.Prelude.{map, slice_index_or, refl}
use Rattle.std.proofs.lemmas.List.{length-map}
use Rattle.status.specs.Codes.{statuses, code_of}
use Rattle.status.specs.declared.Status.{Status}
use Rattle.status.specs.declared.Status.TheVariants.{Off}
use Rattle.status.specs.declared.Transitions.{Transitions}

-- the entry at the status's code
abbrev pub turned : Transitions → Status → Status
turned f s = slice_index_or f.entries (code_of s) Off

-- no change: each status becomes itself
abbrev pub no_turns : Transitions
no_turns = record { entries = statuses; eight = refl }

-- first f, then g: entry i is what g makes of f's entry i
abbrev pub joined : Transitions → Transitions → Transitions
joined f g = record { entries = map (turned g) f.entries; eight = length-map f.entries (turned g) ∙ f.eight }
