-- What commands do, run one after the other.
use Rattle.std.specs.Prelude.{◌≡◌, List, [], ◌∷◌}
use Rattle.naga_oil_ir.specs.Backend.{FrontEnd}
use Rattle.naga_oil_registry.specs.Descriptor.{module_source, shader_source}
use Rattle.naga_oil.specs.State.{State, Adds, Removes}
use Rattle.naga_oil.specs.Makes.{Makes}
use Rattle.naga_oil.specs.declared.compose.command.Command.{Command}
use Rattle.naga_oil.specs.declared.compose.command.Command.TheVariants.{Add, Remove, Make}
use Rattle.naga_oil.specs.declared.compose.command.Reply.{Reply}
use Rattle.naga_oil.specs.declared.compose.command.Reply.TheVariants.{Added, Removed, Made}

-- a reply is of the command's kind, and reports what the command did
abbrev pub Step : {B : Type 0} → (front : B → FrontEnd) → State B → Command → Reply → State B → Type 0
Step front old (Add d) (Added r) new = Adds (λ i. i) (λ d. d.index) old (module_source d) r new
Step front old (Add d) (Removed r) new = ⊥
Step front old (Add d) (Made r) new = ⊥
Step front old (Remove name) (Added r) new = ⊥
Step front old (Remove name) (Removed r) new = Removes old name.now r new
Step front old (Remove name) (Made r) new = ⊥
Step front old (Make d) (Added r) new = ⊥
Step front old (Make d) (Removed r) new = ⊥
Step front old (Make d) (Made r) new = Makes front old (shader_source d) r new

-- there is a reply to each command, run after the commands before it
abbrev pub Run : {B : Type 0} → (front : B → FrontEnd) → State B → List Command → List Reply → State B → Type 0
Run front old [] [] new = new ≡ old
Run front old [] (r ∷ rs) new = ⊥
Run front old (c ∷ cs) [] new = ⊥
Run {B} front old (c ∷ cs) (r ∷ rs) new = (mid : State B) × Step front old c r mid × Run front mid cs rs new
