use Rattle.std.proofs.Common.{◌≡◌, ℕ, List, [], ◌++◌, sym, ap, ◌∙◌, append_assoc, append-nil, Option, rules}
use Rattle.std.specs.Io.KnownBytes.{Appends, Keeps}
use Rattle.std.proofs.KnownBytes.{Appends-trans, Appends-kept}
use Rattle.yettuvam_build.specs.Refusals.{AppendsFront, message_of}
use Rattle.yettuvam_build.proofs.streams.tell.Goals as goal

-- a front of what follows the bytes that are there
front_after : (old mid new : Option (List ℕ)) (done part end all : List ℕ) → done ++ (part ++ end) ≡ all → Appends old mid done → AppendsFront mid new part → AppendsFront old new all
front_after old mid new done part end all whole first (front, rest, split, next) =
    (done ++ front, rest ++ end, append_assoc done front (rest ++ end) ∙ ap (λ l. done ++ l) (sym (append_assoc front rest end) ∙ ap (λ l. l ++ end) split) ∙ whole, Appends-trans _ _ _ _ _ first next)

-- all bytes are there, and stay
front_whole : (old mid new : Option (List ℕ)) (bytes all : List ℕ) → bytes ≡ all → Appends old mid bytes → Keeps mid new → AppendsFront old new all
front_whole old mid new bytes all whole first kept = (bytes, [], append-nil bytes ∙ whole, Appends-kept _ _ _ _ first kept)

pub returns-in_err-put-2-clause-front : goal.returns-in_err-put-2-clause-front
returns-in_err-put-2-clause-front g c =
    let whole : c.as_bytes.result.now ++ c.as_bytes-2.result.now ++ c.message.result.2.now ≡ message_of c.args.refusal = search rules in
    front_after _ _ _ c.as_bytes.result.now c.as_bytes-2.result.now c.message.result.2.now _ (sym (append_assoc c.as_bytes.result.now c.as_bytes-2.result.now c.message.result.2.now) ∙ whole) c.in_ok-put.ensures.all c.in_err-put-2.ensures.front

pub returns-in_err-put-3-clause-front : goal.returns-in_err-put-3-clause-front
returns-in_err-put-3-clause-front g c =
    let first = c.as_bytes.result.now in
    let second = c.as_bytes-2.result.now in
    let third = c.as_bytes-3.result.now in
    let whole : first ++ second ++ third ≡ message_of c.args.refusal = search rules in
    front_after _ _ _ (first ++ second) third [] _ (ap (λ l. (first ++ second) ++ l) (append-nil third) ∙ whole)
    (Appends-trans _ _ _ _ _ c.in_ok-put.ensures.all c.in_ok-put-2.ensures.all) c.in_err-put-3.ensures.front

pub returns-clause-front : goal.returns-clause-front
returns-clause-front g c =
    let first = c.as_bytes.result.now in
    let second = c.as_bytes-2.result.now in
    let third = c.as_bytes-3.result.now in
    let whole : first ++ second ++ third ≡ message_of c.args.refusal = search rules in
    front_whole _ _ _ ((first ++ second) ++ third) _ whole
    (Appends-trans _ _ _ _ _ (Appends-trans _ _ _ _ _ c.in_ok-put.ensures.all c.in_ok-put-2.ensures.all) c.in_ok-put-3.ensures.all) c.flush.ensures.bytes
