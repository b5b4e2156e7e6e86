use Rattle.naga_oil_derive.proofs.EntrySteps.{Keeps-trans}
use Rattle.naga_oil_derive.proofs.derive.DerivedModule.import_mesh.Goals as goal

pub returns-in_err-import-2-clause-keeps : goal.returns-in_err-import-2-clause-keeps
returns-in_err-import-2-clause-keeps c = Keeps-trans c.args.self.now c.import.new.self c.import-2.new.self c.import.ensures.keeps c.import-2.ensures.keeps

pub returns-in_err-import-3-clause-keeps : goal.returns-in_err-import-3-clause-keeps
returns-in_err-import-3-clause-keeps c =
    let a = c.import.new.self in
    let b = c.import-2.new.self in
    let e = c.import-3.new.self in
    Keeps-trans c.args.self.now a e c.import.ensures.keeps (Keeps-trans a b e c.import-2.ensures.keeps c.import-3.ensures.keeps)

pub returns-in_err-import_some-clause-keeps : goal.returns-in_err-import_some-clause-keeps
returns-in_err-import_some-clause-keeps c =
    let a = c.import.new.self in
    let b = c.import-2.new.self in
    let e = c.import-3.new.self in
    let f = c.import_some.new.self in
    Keeps-trans c.args.self.now a f c.import.ensures.keeps (Keeps-trans a b f c.import-2.ensures.keeps (Keeps-trans b e f c.import-3.ensures.keeps c.import_some.ensures.keeps))

pub returns-clause-keeps : goal.returns-clause-keeps
returns-clause-keeps c =
    let a = c.import.new.self in
    let b = c.import-2.new.self in
    let e = c.import-3.new.self in
    let f = c.import_some.new.self in
    let g = c.import_some-2.new.self in
    let eg = Keeps-trans e f g c.import_some.ensures.keeps c.import_some-2.ensures.keeps in
    Keeps-trans c.args.self.now a g c.import.ensures.keeps (Keeps-trans a b g c.import-2.ensures.keeps (Keeps-trans b e g c.import-3.ensures.keeps eg))
