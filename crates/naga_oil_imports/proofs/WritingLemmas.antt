-- A text whose identifiers are substituted one after another.
use Rattle.std.proofs.Common.{Option, Some, ◌≡◌, ℕ, ◌+◌, ◌-◌, Bool, true, false, cond, not, ◌&&◌, ◌||◌, eqb, List, [], ◌∷◌, ◌++◌, length, None, refl, sym, ap, subst, ◌∙◌, arith, append_assoc, append-nil, length-append}
use borrow.Author.Tests.{eqb-true}
use Rattle.std.specs.List.{flat_map, list_any}
use Rattle.std.specs.Option.{option_map}
use Rattle.std.specs.Str.{chars}
use Rattle.std.proofs.lemmas.Str.{chars-nil}
use Rattle.std.proofs.lemmas.List.{append_cancel_right, nil_from_length}
use Rattle.naga_oil_imports.specs.declared.substitute.SubstituteFault.{SubstituteFault}
use Rattle.naga_oil_imports.specs.declared.substitute.SubstituteFault.TheVariants.{Memory}
use Rattle.naga_oil_imports.specs.Declarations.{Declared, paths_of}
use Rattle.naga_oil_imports.specs.Sites.{is_own, HasNoSite, FindsSite}
use Rattle.naga_oil_imports.specs.SubstituteFault.{RefusesUses}
use Rattle.naga_oil_imports.specs.Substituted.{cut_at_first, module_and_item, first_part, past_first, paths_for, path_text, path_text_by, mentions_at, mention_of, with_mentions, Site, mentions_in, first_ambiguous, sites_from, substituted_from, substituted, sites, usize_place, usize_sites}
use Rattle.naga_oil_lines.specs.Tokens.{identifier, lexemes}
use Rattle.naga_oil_imports.specs.Uses.{Uses}
use Rattle.naga_oil_imports.proofs.SiteLemmas.{begins_none}
use Rattle.naga_oil_imports.proofs.SettledLemmas.{Settled, settled_start, settled_more, settled_none, settled_uses, settled_refused, settled_one, one_path, mentions_one, own_path, paths_for_own}
use Rattle.naga_oil_lines.proofs.TokenLemmas.{lexemes-nil}

-- ---- an identifier that stands for itself
not_colon : (a : ℕ) (more : List ℕ) → list_any (λ b. eqb b 58) (a ∷ more) ≡ false → (eqb a 58 ≡ false) × (list_any (λ b. eqb b 58) more ≡ false)
not_colon a more e =
    elim (eqb a 58) as (λ b. (b || list_any (λ b. eqb b 58) more) ≡ false → (b ≡ false) × (list_any (λ b. eqb b 58) more ≡ false)) [
      | true ↦ λ h. absurd (cc)
      | false ↦ λ h. (refl, h)
    ] e

no_cut : (name : List ℕ) → list_any (λ b. eqb b 58) name ≡ false → cut_at_first name ≡ None
no_cut [] e = refl
no_cut (a ∷ []) e = refl
no_cut (a ∷ b ∷ more) e = let n = not_colon a (b ∷ more) e in rw (n.0, no_cut (b ∷ more) n.1) refl

-- no `::` at the front, and none after it
pub not_cut : (a b : ℕ) (more : List ℕ) → cut_at_first (a ∷ b ∷ more) ≡ None → ((eqb a 58 && eqb b 58) ≡ false) × (cut_at_first (b ∷ more) ≡ None)
not_cut a b more e =
    elim (eqb a 58 && eqb b 58) as (λ x. cond x (Some ([], more)) (option_map {U = List ℕ × List ℕ} (λ p. (a ∷ p.0, p.1)) (cut_at_first (b ∷ more))) ≡ None → (x ≡ false) × (cut_at_first (b ∷ more) ≡ None)) [
      | true ↦ λ h. absurd (cc)
      | false ↦ λ h. (refl, unmapped (cut_at_first (b ∷ more)) h)
    ] e
  where
    unmapped : (r : Option (List ℕ × List ℕ)) → option_map {U = List ℕ × List ℕ} (λ p. (a ∷ p.0, p.1)) r ≡ None → r ≡ None
    unmapped None h = refl
    unmapped (Some p) h = absurd (cc)

no_module : (name : List ℕ) → cut_at_first name ≡ None → module_and_item name ≡ None
no_module [] e = refl
no_module (a ∷ []) e = refl
no_module (a ∷ b ∷ more) e = let n = not_cut a b more e in rw (no_module (b ∷ more) n.1, n.0) refl

-- an identifier of its own has one path, itself, which is written as it is and uses nothing
pub record Own (declared : Declared) (name : List ℕ) : Type 0 where
  pub paths : paths_for declared name ≡ name ∷ []
  pub text : path_text name name ≡ name
  pub unused : (place : ℕ) → mentions_at place name ≡ []

pub own_without_cut : (declared : Declared) (name : List ℕ) → cut_at_first name ≡ None → length (paths_of declared name) ≡ 0 → Own declared name
unfolding path_text mentions_at
own_without_cut declared name cut empty =
    let first : first_part name ≡ name = rw cut refl in
    let following : past_first name ≡ [] = rw cut refl in
    let own : own_path name ≡ name = rw (first, following) refl in
    record {
      paths = paths_for_own declared name (rw first (nil_from_length (paths_of declared name) empty)) ∙ ap (λ l. l ∷ []) own;
      text = ap (path_text_by name name) (no_module name cut) ∙ elim (list_any (λ b. eqb b 34) name) as (λ b. cond b name name ≡ name) [ true ↦ refl | false ↦ refl ];
      unused = λ place. ap (mention_of place) (no_module name cut);
    }

is_own_gives : (declared : Declared) (name : List ℕ) → is_own declared name ≡ true → Own declared name
is_own_gives declared name e =
    by (list_any (λ b. eqb b 58) name) (eqb (length (paths_of declared name)) 0) refl refl e
  where
    by : (x y : Bool) → list_any (λ b. eqb b 58) name ≡ x → eqb (length (paths_of declared name)) 0 ≡ y → (not x && y) ≡ true → Own declared name
    by true y p q h = absurd (cc)
    by false false p q h = absurd (cc)
    by false true p q h = own_without_cut declared name (no_cut name p) (eqb-true _ _ q)

-- ---- one identifier after another
-- the text is read up to the rest, and written after the start up to the unwritten part, which is
-- unchanged up to the rest
pub record Writing (declared : Declared) (allowed : Bool) (offset : ℕ) (input start : List ℕ) (old now : Uses) (output unwritten rest : List ℕ) : Type 0 where
  pub read : List ℕ
  pub whole : input ≡ read ++ rest
  pub plain : List ℕ
  pub following : unwritten ≡ plain ++ rest
  pub text : output ++ (plain ++ substituted declared (lexemes 0 (length read) (chars rest))) ≡ start ++ substituted declared (lexemes 0 0 (chars input))
  pub settled : Settled declared allowed (usize_sites (sites offset (lexemes 0 0 (chars input)))) old now (usize_sites (sites offset (lexemes 0 (length read) (chars rest))))

module _ (declared : Declared) (allowed : Bool) (offset : ℕ) (input start : List ℕ) (old : Uses) where
  abbrev all : List Site
  all = usize_sites (sites offset (lexemes 0 0 (chars input)))

  pub writing_start : (output : List ℕ) → output ≡ start → Writing declared allowed offset input start old old output input input
  writing_start output e = record {
    read = [];
    whole = refl;
    plain = [];
    following = refl;
    text = ap (λ l. l ++ substituted declared (lexemes 0 0 (chars input))) e;
    settled = settled_start declared allowed all old old refl;
  }

  -- out of memory between two identifiers
  pub writing_refused : (now : Uses) (output unwritten rest : List ℕ) → Writing declared allowed offset input start old now output unwritten rest → RefusesUses declared allowed all old now Memory
  writing_refused now output unwritten rest w =
      settled_refused declared allowed all old now now [] (usize_sites (sites offset (lexemes 0 (length w.read) (chars rest)))) Memory w.settled (begins_none [] now now refl)

  module _ (now : Uses) (output unwritten rest : List ℕ) (w : Writing declared allowed offset input start old now output unwritten rest) where
    -- no identifier is left
    module _ (none : HasNoSite rest) where
      nothing_left : (at : ℕ) → lexemes 0 at (chars []) ≡ []
      nothing_left at = ap (lexemes 0 at) chars-nil ∙ lexemes-nil at

      no_sites : usize_sites (sites offset (lexemes 0 (length w.read) (chars rest))) ≡ []
      no_sites = ap usize_sites (none.1.sites offset (length w.read) ∙ ap (sites_from offset none.0) (nothing_left (length w.read + length none.1.front)))

      rest_text : substituted declared (lexemes 0 (length w.read) (chars rest)) ≡ rest
      rest_text =
          none.1.written declared (length w.read) ∙ ap (λ ts. none.1.front ++ substituted_from declared none.0 ts) (nothing_left (length w.read + length none.1.front)) ∙ sym none.1.whole

      done : Settled declared allowed all old now []
      done = subst (Settled declared allowed all old now) no_sites w.settled

      pub written_text : (new : List ℕ) → new ≡ output ++ unwritten → new ≡ start ++ substituted declared (lexemes 0 0 (chars input))
      written_text new e = e ∙ ap (λ l. output ++ l) (w.following ∙ ap (λ l. w.plain ++ l) (sym rest_text)) ∙ w.text

      pub written_allowed : first_ambiguous declared allowed all ≡ None
      written_allowed = settled_none declared allowed all old now done

      pub written_uses : now ≡ with_mentions old (mentions_in declared all)
      written_uses = settled_uses declared allowed all old now done

    -- the next identifier
    module _ (name from more : List ℕ) (is_word : Bool) (site : FindsSite rest name is_word from more) where
      abbrev front : List ℕ
      front = site.before.front

      abbrev at : ℕ
      at = length w.read + length front

      abbrev this : Site
      this = record { name = name; place = usize_place (offset + at) }

      abbrev next_read : List ℕ
      next_read = w.read ++ (front ++ name)

      next_at : at + length name ≡ length next_read
      next_at = omega (arith, length-append w.read (front ++ name), length-append front name)

      next_whole : input ≡ next_read ++ more
      next_whole =
          w.whole ∙ ap (λ l. w.read ++ l) (site.before.whole ∙ ap (λ l. front ++ l) site.cut ∙ sym (append_assoc front name more)) ∙ sym (append_assoc w.read (front ++ name) more)

      next_text : substituted declared (lexemes 0 (length w.read) (chars rest)) ≡ front ++ (flat_map (path_text name) (paths_for declared name) ++ substituted declared (lexemes 0 (length next_read) (chars more)))
      next_text =
          site.before.written declared (length w.read)
          ∙ ap (λ ts. front ++ substituted declared ts) (site.token at ∙ ap (λ n. identifier name at ∷ lexemes 0 n (chars more)) next_at)

      next_sites : usize_sites (sites offset (lexemes 0 (length w.read) (chars rest))) ≡ (this ∷ []) ++ usize_sites (sites offset (lexemes 0 (length next_read) (chars more)))
      next_sites =
          ap usize_sites (site.before.sites offset (length w.read) ∙ ap (sites offset) (site.token at ∙ ap (λ n. identifier name at ∷ lexemes 0 n (chars more)) next_at))

      before_next : Settled declared allowed all old now ((this ∷ []) ++ usize_sites (sites offset (lexemes 0 (length next_read) (chars more))))
      before_next = subst (Settled declared allowed all old now) next_sites w.settled

      -- the unwritten text before the next identifier
      pub unwritten_before : (f : List ℕ) × (unwritten ≡ f ++ from)
      unwritten_before = (w.plain ++ front, w.following ∙ ap (λ l. w.plain ++ l) site.before.whole ∙ sym (append_assoc w.plain front from))

      pub place_of_next : length input - length from ≡ at
      place_of_next =
          let whole : length input ≡ length w.read + length rest = ap length w.whole ∙ length-append w.read rest in
          let left : length rest ≡ length front + length from = ap length site.before.whole ∙ length-append front from in
          omega arith

      -- the next identifier stands for itself
      pub own_read : is_own declared name ≡ true → Writing declared allowed offset input start old now output unwritten more
      own_read e =
          let own = is_own_gives declared name e in
          let uses : mentions_in declared (this ∷ []) ≡ [] = mentions_one declared this (name ∷ []) own.paths ∙ append-nil (mentions_at (usize_place (offset + at)) name) ∙ own.unused (usize_place (offset + at)) in
          let same : flat_map (path_text name) (paths_for declared name) ≡ name = ap (flat_map (path_text name)) own.paths ∙ append-nil (path_text name name) ∙ own.text in
          record {
            read = next_read;
            whole = next_whole;
            plain = w.plain ++ (front ++ name);
            following = w.following ∙ ap (λ l. w.plain ++ l) (site.before.whole ∙ ap (λ l. front ++ l) site.cut ∙ sym (append_assoc front name more)) ∙ sym (append_assoc w.plain (front ++ name) more);
            text =
                ap (λ l. output ++ l)
                (append_assoc w.plain (front ++ name) (substituted declared (lexemes 0 (length next_read) (chars more)))
                ∙ ap (λ l. w.plain ++ l)
                (append_assoc front name (substituted declared (lexemes 0 (length next_read) (chars more)))
                ∙ ap (λ l. front ++ (l ++ substituted declared (lexemes 0 (length next_read) (chars more)))) (sym same) ∙ sym next_text))
                ∙ w.text;
            settled =
                settled_more declared allowed all old now now (this ∷ []) (usize_sites (sites offset (lexemes 0 (length next_read) (chars more)))) before_next
                (settled_one declared allowed this (one_path declared allowed this name own.paths)) (ap (with_mentions now) (sym uses));
          }

      -- the next identifier is written
      module _ (place : ℕ) (is : place ≡ usize_place (offset + (length input - length from))) where
        this_is : record { name = name; place = place } ≡ this
        this_is i = record { name = name; place = (is ∙ ap (λ n. usize_place (offset + n)) place_of_next) i }

        pub site_written : (new : Uses) (front_text mid out : List ℕ) → unwritten ≡ front_text ++ from → mid ≡ output ++ front_text → out ≡ mid ++ flat_map (path_text name) (paths_for declared name)
            → first_ambiguous declared allowed (record { name = name; place = place } ∷ []) ≡ None → new ≡ with_mentions now (mentions_in declared (record { name = name; place = place } ∷ []))
            → Writing declared allowed offset input start old new out more more
        unfolding unwritten_before
        site_written new front_text mid out e m o none uses =
            let before : front_text ≡ w.plain ++ front = append_cancel_right front_text (w.plain ++ front) from (sym e ∙ unwritten_before.1) in
            let others = substituted declared (lexemes 0 (length next_read) (chars more)) in
            record {
              read = next_read;
              whole = next_whole;
              plain = [];
              following = refl;
              text =
                  ap (λ l. l ++ others) (o ∙ ap (λ l. l ++ flat_map (path_text name) (paths_for declared name)) (m ∙ ap (λ l. output ++ l) before))
                  ∙ append_assoc (output ++ (w.plain ++ front)) (flat_map (path_text name) (paths_for declared name)) others
                  ∙ append_assoc output (w.plain ++ front) (flat_map (path_text name) (paths_for declared name) ++ others)
                  ∙ ap (λ l. output ++ l) (append_assoc w.plain front (flat_map (path_text name) (paths_for declared name) ++ others) ∙ ap (λ l. w.plain ++ l) (sym next_text))
                  ∙ w.text;
              settled =
                  settled_more declared allowed all old now new (this ∷ []) (usize_sites (sites offset (lexemes 0 (length next_read) (chars more)))) before_next
                  (ap (λ s. first_ambiguous declared allowed (s ∷ [])) (sym this_is) ∙ none) (uses ∙ ap (λ s. with_mentions now (mentions_in declared (s ∷ []))) this_is);
            }

        pub site_refused : (new : Uses) (fault : SubstituteFault) → RefusesUses declared allowed (record { name = name; place = place } ∷ []) now new fault → RefusesUses declared allowed all old new fault
        site_refused new fault r =
            settled_refused declared allowed all old now new (this ∷ []) (usize_sites (sites offset (lexemes 0 (length next_read) (chars more)))) fault before_next
            (subst (λ s. RefusesUses declared allowed (s ∷ []) now new fault) this_is r)
