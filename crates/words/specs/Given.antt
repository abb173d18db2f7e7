-- A value that exists only where a test passes.
use Rattle.std.specs.Prelude.{Bool, true, false, T, None, Option}

-- What the passed test gives, or `None` where it fails.
abbrev pub given : {A : Type 0} → (test : Bool) → (T test → Option A) → Option A
given true value = value tt
given false value = None
