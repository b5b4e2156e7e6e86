-- Each build of a make was built of a registered module's text over those before it, and the shader's over all.
use Rattle.std.proofs.Common.{◌≡◌, ℕ, zero, suc, if◌then◌else◌, Bool, true, false, List, [], ◌∷◌, ◌++◌, take, Option, Some, None, Result, Ok, Err, slice_get, bytes_eq, refl, ap, sym, ◌∙◌, subst}
use Rattle.std.proofs.lemmas.Option.{none-some, same_Some}
use Rattle.naga_oil_ir.specs.ModuleValue.{ModuleValue}
use Rattle.naga_oil_imports.specs.Uses.{Use}
use Rattle.naga_oil_conditions.specs.Fault.{Fault}
use Rattle.naga_oil_pre.specs.Preprocessed.{Output}
use Rattle.naga_oil_registry.specs.Added.{read_source}
use Rattle.naga_oil_registry.specs.Registered.{Registered, Defs}
use Rattle.naga_oil_registry.specs.Descriptor.{ShaderSource}
use Rattle.naga_oil_registry.specs.Merged.{overwritten}
use Rattle.naga_oil_link.specs.BuiltModule.{BuiltModule, Builds}
use Rattle.naga_oil_build.specs.Build.{Unbuilt, build}
use Rattle.naga_oil_build.specs.Built.{preprocessed_of}
use Rattle.naga_oil_build.specs.Held.{Settings}
use Rattle.naga_oil.specs.Answer.{in_shader, of_shader, any_use, as_merged, reach_uses, read_and_build_first, read_and_build_second, module_of_text, answer}
use Rattle.naga_oil.specs.Finish.{finish}
use Rattle.naga_oil.specs.MakeDefs.{defs_merged, defs_of_text, make_defs}
use Rattle.naga_oil.specs.Outcome.{Outcome, Doing, given, done_with, ◌>>=◌}
use Rattle.naga_oil.specs.Reach.{Unreached, Reaching, Rule, defined, builds_with, enter_build, is_built, unless_built, unless_refused, reach_each, as_recorded, preprocess_module, reach_module, reach}
use Rattle.naga_oil.specs.Refused.{Refused, in_text, placed}
use Rattle.naga_oil.specs.Shader.{read_shader, defs_union_over}
use Rattle.naga_oil.proofs.AfreshLemmas.{with_there, with_last}
use Rattle.naga_oil.proofs.FinishedLemmas.{placed_back, defs_back, text_defs, made_defs, Finished, finished}

-- ---- builds

abbrev Entry : Type 0
Entry = List ℕ × BuiltModule

-- a build of a registered module's text under definitions, over builds, none of which has its name
pub record IsBuilt (s : Settings) (ds : List Registered) (defs : Defs) (before : Builds) (e : Entry) : Type 0 where
  pub registered : ℕ
  pub definition : Registered
  pub known : slice_get ds registered ≡ Some definition
  pub name : definition.name ≡ e.0
  pub new : is_built before e.0 ≡ false
  pub output : Output
  pub preprocessed : preprocessed_of (defined defs) definition ≡ Ok output
  pub built : build s definition output before ≡ Ok e.1

-- each build is so over those before it
abbrev pub AllAt : (Builds → Entry → Type 0) → Builds → Type 0
AllAt P bs = (i : ℕ) (e : Entry) → slice_get bs i ≡ Some e → P (take i bs) e

all_last : (P : Builds → Entry → Type 0) (bs : Builds) (x : Entry) → AllAt P bs → P bs x → AllAt P (bs ++ x ∷ [])
all_last P [] x a h zero e at = subst (P []) (same_Some x e at) h
all_last P [] x a h (suc i) e at = absurd (none-some e at)
all_last P (y ∷ ys) x a h zero e at = a zero e at
all_last P (y ∷ ys) x a h (suc i) e at = all_last (λ before. P (y ∷ before)) ys x (λ j f q. a (suc j) f q) h i e at

abbrev pub AllBuilt : Settings → List Registered → Defs → Builds → Type 0
AllBuilt s ds defs bs = AllAt (IsBuilt s ds defs) bs

all_none : (s : Settings) (ds : List Registered) (defs : Defs) → AllBuilt s ds defs []
all_none s ds defs i e at = absurd (none-some e at)

-- ---- steps over builds

-- what holds after two steps
record Bound {X Y F : Type 0} (f : Doing X F) (g : X → Doing Y F) (bs : Builds) (y : Y) : Type 0 where
  value : X
  first : (f bs).result ≡ Ok value
  same : (f >>= g) bs ≡ g value (f bs).builds

bound : {X Y F : Type 0} (f : Doing X F) (g : X → Doing Y F) (bs : Builds) (y : Y) → ((f >>= g) bs).result ≡ Ok y → Bound f g bs y
bound {X} {Y} {F} f g bs y e = one (f bs).result refl e
  where
    one : (r : Result X F) → (f bs).result ≡ r → (done_with (f bs) g r).result ≡ Ok y → Bound f g bs y
    one (Ok x) at q = record { value = x; first = at; same = ap (done_with (f bs) g) at }
    one (Err z) at q = absurd cc

module _ (s : Settings) (all : List Registered) (defs : Defs) where
  abbrev AreBuilt : Builds → Type 0
  AreBuilt bs = AllBuilt s all defs bs

  with_one : (name : List ℕ) (b : BuiltModule) (bs : Builds) → (is_built bs name ≡ false → IsBuilt s all defs bs (name, b)) → AreBuilt bs → AreBuilt (builds_with bs name b)
  with_one name b bs h a = one (is_built bs name) refl
    where
      one : (k : Bool) → is_built bs name ≡ k → AreBuilt (builds_with bs name b)
      one true q = subst AreBuilt (sym (with_there bs name b q)) a
      one false q = subst AreBuilt (sym (with_last bs name b q)) (all_last (IsBuilt s all defs) bs (name, b) a (h q))

  -- steps keep the builds so
  abbrev KeepsBuilt : {X F : Type 0} → Doing X F → Type 0
  KeepsBuilt f = (bs : Builds) → AreBuilt bs → AreBuilt (f bs).builds

  bind_keeps : {X Y F : Type 0} (f : Doing X F) (g : X → Doing Y F) → KeepsBuilt f → ((x : X) → KeepsBuilt (g x)) → KeepsBuilt (f >>= g)
  bind_keeps {X} {Y} {F} f g h k bs a = one (f bs).result
    where
      one : (r : Result X F) → AreBuilt (done_with (f bs) g r).builds
      one (Ok x) = k x (f bs).builds (h bs a)
      one (Err e) = h bs a

  each_keeps : (rule : Rule) (reaching : Reaching) → ((name : List ℕ) → KeepsBuilt (reaching name)) → (us : List Use) → KeepsBuilt (reach_each rule reaching us)
  unfolding reach_each
  each_keeps rule reaching h [] bs a = a
  each_keeps rule reaching h (u ∷ us) bs a = bind_keeps (unless_refused (rule u) (reaching u.import.import)) (λ done. reach_each rule reaching us) (one (rule u)) (λ done. each_keeps rule reaching h us) bs a
    where
      one : (o : Option Unreached) → KeepsBuilt (unless_refused o (reaching u.import.import))
      one None = h u.import.import
      one (Some why) = λ bs a. a

  unless_keeps : (reaching : Reaching) → ((name : List ℕ) → KeepsBuilt (reaching name)) → (name : List ℕ) → KeepsBuilt (unless_built reaching name)
  unless_keeps reaching h name bs a = one (is_built bs name)
    where
      one : (b : Bool) → AreBuilt (let o : Outcome (Unit {0}) Unreached = if b then given (Ok tt) bs else reaching name bs in o.builds)
      one true = a
      one false = h name bs a

  -- a definition is registered
  abbrev IsKnown : Registered → Type 0
  IsKnown d = (k : ℕ) × (slice_get all k ≡ Some d)

  enter_keeps : (d : Registered) (out : Output) (bs : Builds) → IsKnown d → preprocessed_of (defined defs) d ≡ Ok out → AreBuilt bs → (r : Result BuiltModule Unbuilt) → build s d out bs ≡ r → AreBuilt (enter_build d.name r bs).builds
  enter_keeps d out bs known p a (Ok b) e = with_one d.name b bs (λ new. record { registered = known.0; definition = d; known = known.1; name = refl; new = new; output = out; preprocessed = p; built = e }) a
  enter_keeps d out bs known p a (Err u) e = a

  module_keeps : (d : Registered) (reaching : Reaching) → IsKnown d → ((name : List ℕ) → KeepsBuilt (reaching name)) → KeepsBuilt (reach_module s defs d reaching)
  unfolding reach_module
  module_keeps d reaching known h bs a = one (preprocessed_of (defined defs) d) refl
    where
      enters : Output → Unit {0} → Doing (Unit {0}) Unreached
      enters out done bs = enter_build d.name (build s d out bs) bs

      one : (r : Result Output Fault) → preprocessed_of (defined defs) d ≡ r → AreBuilt (let f : Doing (Unit {0}) Unreached = preprocess_module defs d r >>= λ out. reach_each (as_recorded d) reaching out.uses >>= enters out in f bs).builds
      one (Ok out) p = bind_keeps (reach_each (as_recorded d) reaching out.uses) (enters out) (each_keeps (as_recorded d) reaching h out.uses) (λ done bs a. enter_keeps d out bs known p a (build s d out bs) refl) bs a
      one (Err f) p = a

  reach_keeps : (ds : List Registered) → ((k : ℕ) (d : Registered) → slice_get ds k ≡ Some d → IsKnown d) → (name : List ℕ) → KeepsBuilt (reach s defs ds name)
  unfolding reach
  reach_keeps [] known name bs a = a
  reach_keeps (d ∷ ds) known name bs a = one (reach_keeps ds (λ k x at. known (suc k) x at)) (bytes_eq d.name name)
    where
      one : ((name : List ℕ) → KeepsBuilt (reach s defs ds name)) → (b : Bool) → AreBuilt (let f : Doing (Unit {0}) Unreached = if b then reach_module s defs d (unless_built (reach s defs ds)) else reach s defs ds name in f bs).builds
      one rest true = module_keeps d (unless_built (reach s defs ds)) (known zero d refl) (unless_keeps (reach s defs ds) rest) bs a
      one rest false = rest name bs a

  uses_keep : (path text : List ℕ) (rule : Rule) (us : List Use) → KeepsBuilt (of_shader path text defs (reach_uses s all defs rule us))
  uses_keep path text rule us bs a = each_keeps rule (unless_built (reach s defs all)) (unless_keeps (reach s defs all) (reach_keeps all (λ k d at. (k, at)))) us bs a

-- ---- reading a shader

-- the first reading gives definitions, and builds under these
record First (s : Settings) (ds : List Registered) (text : List ℕ) (d : Registered) (own defs : Defs) (bs : Builds) : Type 0 where
  merged : defs_merged ds d own ≡ Ok defs
  keeps : AllBuilt s ds defs bs → AllBuilt s ds defs (read_and_build_first s ds text d own bs).builds

first_read : (s : Settings) (ds : List Registered) (text : List ℕ) (d : Registered) (own defs : Defs) (bs : Builds) → (read_and_build_first s ds text d own bs).result ≡ Ok defs → First s ds text d own defs bs
unfolding read_and_build_first
first_read s ds text d own defs bs e =
    let place = in_text d.file_path text 0 in
    let pre = in_shader d.file_path text (preprocessed_of (defined own) d) in
    let merges = λ (out : Output). in_shader d.file_path text (defs_union_over ds own out.uses) in
    let reaches = λ (out : Output) (n : Defs). of_shader d.file_path text n (reach_uses s ds n any_use out.uses) in
    let last = λ (n : Defs) (done : Unit {0}) (cs : Builds). (let o : Outcome Defs Refused = given (Ok n) cs in o) in
    let third = λ (out : Output) (n : Defs). reaches out n >>= last n in
    let second = λ (out : Output). merges out >>= third out in
    let one = bound pre second bs defs e in
    let out = one.value in
    let e1 : (second out bs).result ≡ Ok defs = ap (λ (o : Outcome Defs Refused). o.result) (sym one.same) ∙ e in
    let two = bound (merges out) (third out) bs defs e1 in
    let n = two.value in
    let e2 : (third out n bs).result ≡ Ok defs = ap (λ (o : Outcome Defs Refused). o.result) (sym two.same) ∙ e1 in
    let three = bound (reaches out n) (last n) bs defs e2 in
    let same : n ≡ defs = same_Ok n defs (ap (λ (o : Outcome Defs Refused). o.result) (sym three.same) ∙ e2) in
    let builds : (read_value s ds text d own bs).builds ≡ (reaches out n bs).builds = ap (λ (o : Outcome Defs Refused). o.builds) (one.same ∙ two.same ∙ three.same) in
    let pre_read : preprocessed_of (defined own) d ≡ Ok out = placed_back place (preprocessed_of (defined own) d) out one.first in
    let union_read : defs_union_over ds own out.uses ≡ Ok n = placed_back place (defs_union_over ds own out.uses) n two.first in
    record {
      merged = defs_back ds d own out n pre_read union_read ∙ ap (λ (x : Defs). Ok x) same;
      keeps = subst (λ x. AllBuilt s ds x bs → AllBuilt s ds x (read_value s ds text d own bs).builds) same (λ a. subst (AllBuilt s ds n) (sym builds) (uses_keep s ds n d.file_path text any_use out.uses bs a));
    }
  where
    same_Ok : (a b : Defs) → (let r : Result Defs Refused = Ok a in r) ≡ Ok b → a ≡ b
    same_Ok a b q = cc

    read_value : Settings → List Registered → List ℕ → Registered → Defs → Doing Defs Refused
    read_value s ds text d own = read_and_build_first s ds text d own

-- the second reading gives the preprocessed text, and builds under these definitions too
record Second (s : Settings) (ds : List Registered) (text : List ℕ) (d : Registered) (defs : Defs) (bs : Builds) (out : Output) : Type 0 where
  preprocessed : preprocessed_of (defined defs) d ≡ Ok out
  keeps : AllBuilt s ds defs bs → AllBuilt s ds defs (read_and_build_second s ds text d defs bs).builds

second_read : (s : Settings) (ds : List Registered) (text : List ℕ) (d : Registered) (defs : Defs) (bs : Builds) (out : Output) → (read_and_build_second s ds text d defs bs).result ≡ Ok out → Second s ds text d defs bs out
unfolding read_and_build_second
second_read s ds text d defs bs out e =
    let place = in_text d.file_path text 0 in
    let pre = in_shader d.file_path text (preprocessed_of (defined defs) d) in
    let reaches = λ (n : Output). of_shader d.file_path text defs (reach_uses s ds defs (as_merged ds defs) n.uses) in
    let last = λ (n : Output) (done : Unit {0}) (cs : Builds). (let o : Outcome Output Refused = given (Ok n) cs in o) in
    let second = λ (n : Output). reaches n >>= last n in
    let one = bound pre second bs out e in
    let n = one.value in
    let e1 : (second n bs).result ≡ Ok out = ap (λ (o : Outcome Output Refused). o.result) (sym one.same) ∙ e in
    let two = bound (reaches n) (last n) bs out e1 in
    let same : n ≡ out = same_Ok n out (ap (λ (o : Outcome Output Refused). o.result) (sym two.same) ∙ e1) in
    let builds : (read_value s ds text d defs bs).builds ≡ (reaches n bs).builds = ap (λ (o : Outcome Output Refused). o.builds) (one.same ∙ two.same) in
    record {
      preprocessed = placed_back place (preprocessed_of (defined defs) d) n one.first ∙ ap (λ (x : Output). Ok x) same;
      keeps = λ a. subst (AllBuilt s ds defs) (sym builds) (uses_keep s ds defs d.file_path text (as_merged ds defs) n.uses bs a);
    }
  where
    same_Ok : (a b : Output) → (let r : Result Output Refused = Ok a in r) ≡ Ok b → a ≡ b
    same_Ok a b q = cc

    read_value : Settings → List Registered → List ℕ → Registered → Defs → Doing Output Refused
    read_value s ds text d defs = read_and_build_second s ds text d defs

-- ---- an answer

-- a made module comes of the build of the shader's text, over builds of registered modules
record MadeOf (s : Settings) (ds : List Registered) (m : ShaderSource) (text : List ℕ) (bs : Builds) (made : ModuleValue) : Type 0 where
  definition : Registered
  described : read_shader m text ≡ Ok definition
  defs : Defs
  merged : defs_of_text ds m text ≡ Ok defs
  output : Output
  preprocessed : preprocessed_of (defined defs) definition ≡ Ok output
  all : AllBuilt s ds defs bs
  shader : Finished s bs definition output m.shader_type made

make_made : (s : Settings) (ds : List Registered) (m : ShaderSource) (text : List ℕ) (made : ModuleValue) → (module_of_text s ds m text []).result ≡ Ok made → MadeOf s ds m text (module_of_text s ds m text []).builds made
unfolding module_of_text
make_made s ds m text made e =
    let f = in_shader m.file_path text (read_shader m text) in
    let g = λ (d : Registered) (defs : Defs) (out : Output) (cs : Builds). given (finish s defs cs d out m.shader_type) cs in
    let h = λ (d : Registered) (defs : Defs). read_and_build_second s ds text d defs >>= g d defs in
    let k = λ (d : Registered). read_and_build_first s ds text d (overwritten m.defs d.defs) >>= h d in
    let one = bound f k [] made e in
    let d = one.value in
    let own = overwritten m.defs d.defs in
    let e1 : (k d []).result ≡ Ok made = ap (λ (o : Outcome ModuleValue Refused). o.result) (sym one.same) ∙ e in
    let two = bound (read_and_build_first s ds text d own) (h d) [] made e1 in
    let defs = two.value in
    let cs = (read_and_build_first s ds text d own []).builds in
    let e2 : (h d defs cs).result ≡ Ok made = ap (λ (o : Outcome ModuleValue Refused). o.result) (sym two.same) ∙ e1 in
    let three = bound (read_and_build_second s ds text d defs) (g d defs) cs made e2 in
    let out = three.value in
    let es = (read_and_build_second s ds text d defs cs).builds in
    let e3 : finish s defs es d out m.shader_type ≡ Ok made = ap (λ (o : Outcome ModuleValue Refused). o.result) (sym three.same) ∙ e2 in
    let first = first_read s ds text d own defs [] two.first in
    let second = second_read s ds text d defs cs out three.first in
    let described : read_shader m text ≡ Ok d = placed_back (in_text m.file_path text 0) (read_shader m text) d one.first in
    let builds : (make_value s ds m text []).builds ≡ es = ap (λ (o : Outcome ModuleValue Refused). o.builds) (one.same ∙ two.same ∙ three.same) in
    subst (λ cs. MadeOf s ds m text cs made) (sym builds) (record {
      definition = d;
      described = described;
      defs = defs;
      merged = text_defs ds m text d defs described first.merged;
      output = out;
      preprocessed = second.preprocessed;
      all = second.keeps (first.keeps (all_none s ds defs));
      shader = finished s defs es d out m.shader_type made e3;
    })
  where
    make_value : Settings → List Registered → ShaderSource → List ℕ → Doing ModuleValue Refused
    make_value s ds m text = module_of_text s ds m text

-- the same holds of an answer
pub record Made (s : Settings) (ds : List Registered) (counter : ℕ) (m : ShaderSource) (bs : Builds) (made : ModuleValue) : Type 0 where
  pub read : List ℕ × ℕ
  pub source : read_source counter m.source ≡ Ok read
  pub definition : Registered
  pub described : read_shader m read.0 ≡ Ok definition
  pub output : Output
  pub preprocessed : preprocessed_of (defined (make_defs ds counter m)) definition ≡ Ok output
  pub all : AllBuilt s ds (make_defs ds counter m) bs
  pub shader : Finished s bs definition output m.shader_type made

pub answer_made : (s : Settings) (ds : List Registered) (counter : ℕ) (m : ShaderSource) (made : ModuleValue) → (answer s ds counter m).result ≡ Ok made → Made s ds counter m (answer s ds counter m).builds made
unfolding answer
answer_made s ds counter m made e =
    let place = in_text m.file_path m.source 0 in
    let f = given (placed place (read_source counter m.source)) in
    let g = λ (read : List ℕ × ℕ). module_of_text s ds m read.0 in
    let one = bound f g [] made e in
    let read = one.value in
    let e1 : (module_of_text s ds m read.0 []).result ≡ Ok made = ap (λ (o : Outcome ModuleValue Refused). o.result) (sym one.same) ∙ e in
    let of = make_made s ds m read.0 made e1 in
    let source : read_source counter m.source ≡ Ok read = placed_back place (read_source counter m.source) read one.first in
    let same = made_defs ds counter m read of.defs source of.merged in
    subst (λ (o : Outcome ModuleValue Refused). Made s ds counter m o.builds made) (sym one.same) (record {
      read = read;
      source = source;
      definition = of.definition;
      described = of.described;
      output = of.output;
      preprocessed = subst (λ n. preprocessed_of (defined n) of.definition ≡ Ok of.output) same of.preprocessed;
      all = subst (λ n. AllBuilt s ds n (module_of_text s ds m read.0 []).builds) same of.all;
      shader = of.shader;
    })
