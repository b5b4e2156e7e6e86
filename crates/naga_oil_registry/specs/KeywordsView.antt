-- Functions after keywords, as the code has them.
use Rattle.naga_oil_registry.specs.Keywords.{MarkedFunction}
use Rattle.naga_oil_registry.specs.declared.marked.Marked.{Marked}

abbrev pub marked_of : Marked → MarkedFunction
marked_of m = record { keyword = m.keyword; name = m.name.now; place = m.place }
