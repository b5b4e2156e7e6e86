-- A walk over a function.
use Rattle.std.specs.Prelude.{◌≡◌, ◌<◌, ℕ, true, List, [], length, slice_get, Some, None, All, replicate}
use Rattle.naga_oil_form.specs.Links.{Links, lists, AreEarlier, has, started}
use Rattle.naga_oil_ir.specs.Body.{Tokens, block_tokens}
use Rattle.naga_oil_form.specs.BodyForm.{kinds, operand_links}
use Rattle.naga_oil_form.specs.WellFormed.{initialisers}
use Rattle.naga_oil_form.specs.declared.form.ExpressionParts.{ExpressionParts}
use Rattle.naga_oil_ir.specs.declared.module.Function.{Function}
use Rattle.naga_oil_walk.specs.Walk.{walked, Notes, notes_after, IsReachOrder, AreNoted, AreWithin}
use Rattle.naga_oil_ir.specs.declared.names.ItemPlace.{ItemPlace}
use Rattle.naga_oil_walk.specs.declared.walk.Request.TheVariants.{Item}
use Rattle.naga_oil_walk.specs.Naming.{item_of, IsAmong, Thins, function_names}
use Rattle.naga_oil_walk.specs.declared.walk.Walk.{Walk}

-- the walk is over the expressions that were read, each of which names only earlier ones
pub record IsOver (of : ExpressionParts) (w : Walk) : Type 0 where
  pub earlier : AreEarlier (lists of.links.items)
  pub named : length of.named.items ≡ length of.links.items
  pub marks : length w.marks.items ≡ length of.links.items
  -- the items that the listed expressions name are requested
  pub covers : (k : ℕ) (p : ItemPlace) → has w.places.items k ≡ true → item_of (slice_get of.named.items k) ≡ Some p → IsAmong w.requests.items (Item p)

-- o lists expressions of these kinds and links in the order of first reach; the initialisers reach the first n; es gives the
-- positions of the emitted ranges in o
pub record IsWalkOf (ks : List ℕ) (ls : Links) (is : List ℕ) (ts : Tokens) (o : List ℕ) (n : ℕ) (es : Notes) : Type 0 where
  pub order : o ≡ walked ks ls is ts
  pub began : n ≡ length (started ls is)
  pub within : All (λ k. k < length ls) o
  pub ready : IsReachOrder ls o
  pub noted : AreNoted (started ls is) o es ts
  pub notes : AreWithin (length (started ls is)) o es

-- the walk lists the expressions of a function, and the items that it names without repeats
pub record Walks (f : Function) (w : Walk) : Type 0 where
  pub listed : IsWalkOf (kinds f.expressions) (operand_links f.expressions) (initialisers f) (block_tokens f.body) w.places.items w.began w.emitted.items
  pub requests : Thins [] (function_names f) w.requests.items
  pub emits : w.emitted.items ≡ notes_after (kinds f.expressions) (operand_links f.expressions) (started (operand_links f.expressions) (initialisers f)) (replicate (length f.expressions) None) (block_tokens f.body)
