-- The front end, worked by hand.
use Rattle.std.specs.Prelude.{◌≡◌, refl, [], ◌∷◌, Ok, Err, codes}
use Rattle.naga_oil_ir.specs.Spans.{undefined}
use Rattle.yettuvam_wgsl_valid_items.specs.Faults.{fault, valid}
use Rattle.yettuvam_wgsl_valid_items.specs.declared.faults.Reason.TheVariants as reason
use Rattle.yettuvam_wgsl.specs.Front.{not_in_wgsl, tested, written}

-- a text stays, and what WGSL can't say is the fault of a module
written_rows :
    (written (Ok (codes "const A = 4;")) ≡ Ok (codes "const A = 4;"))
    × (written (Err undefined) ≡ Err (record { message = codes "not in WGSL"; spans = (undefined, []) ∷ []; notes = [] }))
written_rows = (refl, refl)

-- a module that passes, and one whose function returns nothing
tested_rows :
    (tested valid ≡ Ok tt)
    × (tested (fault reason.NoReturn undefined) ≡ Err (record { message = codes "a function with a result must return a value"; spans = (undefined, []) ∷ []; notes = [] }))
tested_rows = (refl, refl)
