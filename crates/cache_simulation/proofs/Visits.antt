-- What several caches have served, after one more request.
use Rattle.std.proofs.Common.{inl, inr}
use Rattle.std.specs.Prelude.{◌⊎◌, if◌then◌else◌}
use Rattle.std.specs.List.{All}
use Rattle.std.proofs.lemmas.Bool.{eqb-true, eqb-false, cond_both}
use Rattle.std.proofs.lemmas.List.{get_or_push, get_or_append_left, get_or-map, get_or-set_same, take_at}
use Rattle.rendezvous.specs.Nodes.{GoesTo}
use Rattle.cache_simulation.specs.declared.options.Policy.{Policy as Named}
use Rattle.cache_simulation.specs.declared.tiers.Tiers.{Tiers}
use Rattle.cache_simulation.specs.Caches.{Ran, shape_of}
use Rattle.cache_simulation.specs.Tiers.{IsVisit, HasServed, Makes, MakesAt, behind, one_more, is_at, hits_at}
use Rattle.cache_simulation.proofs.Words.{◌≡◌, ◌∙◌, ℕ, ◌+◌, ◌<◌, ◌≤◌, ◌==◌, Bool, true, false, not, Option, None, Some, List, [], ◌∷◌, ◌++◌, refl, ap, sym, subst, length, get_or, set, take, arith, nat_lt, unwrap_or, slice_index, EachIndex, cons_option, cases_lt, append-nil, length_push, length-set, All-get_or, filter_map-append, Cache, Told, Setting, Request, Fresh, Rules, Stands, StandsIn, rules_in, start_in, policy_of, Visit, Got, HasHad, Tells, at_node, hits_in}

-- the same requests
pub same-served : (own own' : ℕ → List Request) (asked asked' : List Request) (t : Tiers) → ((n : ℕ) → own n ≡ own' n) → asked ≡ asked' → HasServed own asked t → HasServed own' asked' t
same-served own own' asked asked' t each same h = record {
  nodes = λ n d lt. subst (λ (r : List Request). Got t.setting t.policy t.size r (get_or t.nodes.items n d)) (each n) (h.nodes n d lt);
  shield = λ c is. subst (λ (r : List Request). Got t.setting t.policy c.size r c) same (h.shield c is);
}

-- one cache got more
pub got-more : (setting : Setting) (policy : Named) (size : ℕ) (asked more : List Request) (old new : Cache) → Makes more old new → Got setting policy size asked old → Got setting policy size (asked ++ more) new
got-more setting policy size asked more old new makes got = record { stands = makes.serves setting [] asked got.stands; shape = makes.shape ∙ got.shape }

-- a node got more
pub node-more : (n : ℕ) (more : List Request) (own : ℕ → List Request) (asked : List Request) (s t : Tiers)
    → t.setting ≡ s.setting → t.policy ≡ s.policy → t.size ≡ s.size → t.shield ≡ s.shield → MakesAt n more s.nodes.items t.nodes.items → HasServed own asked s → HasServed (one_more n more own) asked t
node-more n more own asked s t setting policy size shield made h = record {
  nodes = λ m d lt.
      let long = made.long in
      let within : m < length s.nodes.items = omega arith in
      let new = get_or t.nodes.items m d in
      let old : Got t.setting t.policy t.size (own m) (get_or s.nodes.items m d) =
      subst (λ (x : Setting). Got x t.policy t.size (own m) (get_or s.nodes.items m d)) (sym setting)
      (subst (λ (x : Named). Got s.setting x t.size (own m) (get_or s.nodes.items m d)) (sym policy)
      (subst (λ (x : ℕ). Got s.setting s.policy x (own m) (get_or s.nodes.items m d)) (sym size) (h.nodes m d within))) in
      cond_both (n == m) (own m ++ more) (own m) (λ r. Got t.setting t.policy t.size r new)
      (λ is. got-more t.setting t.policy t.size (own m) more (get_or s.nodes.items m d) new
      (subst (λ (k : ℕ). Makes more (get_or s.nodes.items k d) (get_or t.nodes.items k d)) (eqb-true n m is) (made.own d)) old)
      (λ not. subst (λ (c : Cache). Got t.setting t.policy t.size (own m) c) (sym (made.others m d (λ same. eqb-false n m not (sym same)))) old);
  shield = λ c is.
      subst (λ (x : Setting). Got x t.policy c.size asked c) (sym setting)
      (subst (λ (x : Named). Got s.setting x c.size asked c) (sym policy) (h.shield c (sym shield ∙ is)));
}

-- the shield got more
pub shield-more : (more : List Request) (own : ℕ → List Request) (asked : List Request) (s t : Tiers) (old new : Cache)
    → t.setting ≡ s.setting → t.policy ≡ s.policy → t.size ≡ s.size → t.nodes.items ≡ s.nodes.items → s.shield ≡ Some old → t.shield ≡ Some new → Makes more old new → HasServed own asked s → HasServed own (asked ++ more) t
shield-more more own asked s t old new setting policy size nodes was is makes h = record {
  nodes = λ n d lt.
      subst (λ (x : Setting). Got x t.policy t.size (own n) (get_or t.nodes.items n d)) (sym setting)
      (subst (λ (x : Named). Got s.setting x t.size (own n) (get_or t.nodes.items n d)) (sym policy)
      (subst (λ (x : ℕ). Got s.setting s.policy x (own n) (get_or t.nodes.items n d)) (sym size)
      (subst (λ (x : List Cache). Got s.setting s.policy s.size (own n) (get_or x n d)) (sym nodes) (h.nodes n d (subst (λ (x : List Cache). n < length x) nodes lt)))));
  shield = λ c there.
      let got = h.shield old was in
      let larger : new.size ≡ old.size = ap (λ p. p.1) makes.shape in
      let same : new ≡ c = ap (λ (o : Option Cache). unwrap_or o new) (sym is ∙ there) in
      subst (λ (c : Cache). Got t.setting t.policy c.size (asked ++ more) c) same
      (subst (λ (x : Setting). Got x t.policy new.size (asked ++ more) new) (sym setting)
      (subst (λ (x : Named). Got s.setting x new.size (asked ++ more) new) (sym policy)
      (subst (λ (x : ℕ). Got s.setting s.policy x (asked ++ more) new) (sym larger) (got-more s.setting s.policy old.size asked more old new makes got))));
}

-- the requests that were made are these
pub made-of : (made more : List Request) (old new : Cache) → made ≡ more
    → ((setting : Setting) (before asked : List Request) → StandsIn setting before asked old → StandsIn setting before (asked ++ made) new) → shape_of new ≡ shape_of old → Makes more old new
made-of made more old new same serves shape = record {
  serves = λ setting before asked stands. subst (λ (r : List Request). StandsIn setting before (asked ++ r) new) same (serves setting before asked stands);
  shape = shape;
}

-- a vector whose slice was changed
pub made-back : (n : ℕ) (made more : List Request) (slice items new rest : List Cache) (len : ℕ) → made ≡ more → slice ≡ items → length new ≡ len → MakesAt n made slice new → MakesAt n more items (take len (new ++ rest))
made-back n made more slice items new rest len same is long h =
    subst (λ (r : List Request). MakesAt n r items (take len (new ++ rest))) same
    (subst (λ (xs : List Cache). MakesAt n made xs (take len (new ++ rest))) is
    (subst (λ (ys : List Cache). MakesAt n made slice ys) (sym (take_at new rest len long)) h))

-- and has as many elements as before
pub within-kept : (there : List ℕ) (items new rest : List Cache) (len : ℕ) → length new ≡ len → length new ≡ length items → All (λ n. n < length items) there → All (λ n. n < length (take len (new ++ rest))) there
within-kept there items new rest len long same all =
    λ k d lt. subst (λ (xs : List Cache). get_or there k d < length xs) (sym (take_at new rest len long)) (subst (λ (n : ℕ). get_or there k d < n) (sym same) (all k d lt))

-- the hits of the one that was changed
pub hits-changed : (nodes : List Cache) (n : ℕ) (old new : Cache) (is : Bool) → n < length nodes → old ≡ get_or nodes n old → is ≡ nat_lt (hits_in old) (hits_in new) → is ≡ nat_lt (hits_at n nodes) (hits_at n (set nodes n new))
hits-changed nodes n old new is lt there told =
    let long : n < length (set nodes n new) = subst (λ (m : ℕ). n < m) (sym (length-set nodes n new)) lt in
    let before : hits_at n nodes ≡ hits_in old = get_or-map hits_in nodes n old 0 lt ∙ ap hits_in (sym there) in
    let after : hits_at n (set nodes n new) ≡ hits_in new = get_or-map hits_in (set nodes n new) n old 0 long ∙ ap hits_in (get_or-set_same nodes n new old lt) in
    told ∙ ap (λ (a : ℕ). nat_lt a (hits_in new)) (sym before) ∙ ap (λ (b : ℕ). nat_lt (hits_at n nodes) b) (sym after)

-- the numbers from 0 on, and one more
pub numbers-more : (xs ys : List ℕ) (n : ℕ) → length xs ≡ n → ys ≡ xs ++ n ∷ [] → EachIndex xs (λ k. slice_index xs k ≡ k) → EachIndex ys (λ k. slice_index ys k ≡ k)
numbers-more xs ys n long is each = λ k lt. subst (λ (zs : List ℕ). slice_index zs k ≡ k) (sym is) (at k (subst (λ (zs : List ℕ). k < length zs) is lt))
  where
    by : (k : ℕ) → (k < length xs) ⊎ (length xs ≤ k) → k < length xs + 1 → slice_index (xs ++ n ∷ []) k ≡ k
    by k (inl below) lt = get_or_append_left xs (n ∷ []) 0 k below ∙ each k below
    by k (inr above) lt =
        let same : length xs ≡ k = omega arith in
        get_or_push xs n 0 k same ∙ sym long ∙ same

    at : (k : ℕ) → k < length (xs ++ n ∷ []) → slice_index (xs ++ n ∷ []) k ≡ k
    at k lt = by k (cases_lt k (length xs)) (subst (λ (m : ℕ). k < m) (length_push xs n) lt)

-- before the first request
pub none-served : (t : Tiers) → All (Got t.setting t.policy t.size []) t.nodes.items → ((c : Cache) → t.shield ≡ Some c → Got t.setting t.policy c.size [] c) → HasHad [] t
none-served t nodes shield = record { nodes = λ n d lt. All-get_or (Got t.setting t.policy t.size []) t.nodes.items n d lt nodes; shield = shield }

-- one more node tells
pub tell-more : (setting : Setting) (policy : Named) (size : ℕ) (own : ℕ → List Request) (xs ys : List Told) (told : Told) (n : ℕ) → length xs ≡ n → ys ≡ xs ++ told ∷ [] → Tells setting policy size (own n) told
    → ((k : ℕ) (d : Told) → k < length xs → Tells setting policy size (own k) (get_or xs k d)) → (k : ℕ) (d : Told) → k < length ys → Tells setting policy size (own k) (get_or ys k d)
tell-more setting policy size own xs ys told n long is last each = λ k d lt. subst (λ (zs : List Told). Tells setting policy size (own k) (get_or zs k d)) (sym is) (at k d (subst (λ (zs : List Told). k < length zs) is lt))
  where
    by : (k : ℕ) (d : Told) → (k < length xs) ⊎ (length xs ≤ k) → k < length xs + 1 → Tells setting policy size (own k) (get_or (xs ++ told ∷ []) k d)
    by k d (inl below) lt = subst (λ (x : Told). Tells setting policy size (own k) x) (sym (get_or_append_left xs (told ∷ []) d k below)) (each k d below)
    by k d (inr above) lt =
        let same : length xs ≡ k = omega arith in
        let its : n ≡ k = sym long ∙ same in
        subst (λ (x : Told). Tells setting policy size (own k) x) (sym (get_or_push xs told d k same)) (subst (λ (m : ℕ). Tells setting policy size (own m) told) its last)

    at : (k : ℕ) (d : Told) → k < length (xs ++ told ∷ []) → Tells setting policy size (own k) (get_or (xs ++ told ∷ []) k d)
    at k d lt = by k d (cases_lt k (length xs)) (subst (λ (m : ℕ). k < m) (length_push xs told) lt)

-- a visit is one more request of its node
pub own-more : (n m : ℕ) (r : Request) (is_behind : Bool) (visits : List Visit)
    → one_more n (r ∷ []) (λ k. at_node k visits) m ≡ at_node m (visits ++ record { request = r; node = Some n; is_behind = is_behind } ∷ [])
own-more n m r is_behind visits =
    let visit : Visit = record { request = r; node = Some n; is_behind = is_behind } in
    sym (filter_map-append (λ (v : Visit). if is_at m v.node then Some v.request else None) visits (visit ∷ [])
    ∙ (elim (n == m) as (λ b. at_node m visits ++ cons_option (if b then Some r else None) [] ≡ (if b then at_node m visits ++ r ∷ [] else at_node m visits)) [ true ↦ refl | false ↦ append-nil (at_node m visits) ]))

-- one of no node is none of them
pub own-same : (m : ℕ) (r : Request) (is_behind : Bool) (visits : List Visit) → at_node m visits ≡ at_node m (visits ++ record { request = r; node = None; is_behind = is_behind } ∷ [])
own-same m r is_behind visits =
    let visit : Visit = record { request = r; node = None; is_behind = is_behind } in
    sym (filter_map-append (λ (v : Visit). if is_at m v.node then Some v.request else None) visits (visit ∷ []) ∙ append-nil (at_node m visits))

-- one that was made to the shield is one more of its requests, and another one is none
pub behind-more : (r : Request) (node : Option ℕ) (visits : List Visit) → behind visits ++ r ∷ [] ≡ behind (visits ++ record { request = r; node = node; is_behind = true } ∷ [])
behind-more r node visits =
    let visit : Visit = record { request = r; node = node; is_behind = true } in
    sym (filter_map-append (λ (v : Visit). if v.is_behind then Some v.request else None) visits (visit ∷ []))

pub behind-same : (r : Request) (node : Option ℕ) (visits : List Visit) → behind visits ≡ behind (visits ++ record { request = r; node = node; is_behind = false } ∷ [])
behind-same r node visits =
    let visit : Visit = record { request = r; node = node; is_behind = false } in
    sym (filter_map-append (λ (v : Visit). if v.is_behind then Some v.request else None) visits (visit ∷ []) ∙ append-nil (behind visits))

-- what a run tells is what its cache tells
pub tells : (setting : Setting) (policy : Named) (size : ℕ) (asked : List Request) (c : Cache) (told : Told) → told.policy ≡ policy_of c.run
    → ((before asked : List Request) (rules : Rules) (start : Option Fresh) → Stands before asked rules start c.gone c.run → Ran before asked rules start told) → Got setting policy size asked c → Tells setting policy size asked told
tells setting policy size asked c told same ran got = (
  same ∙ ap (λ p. p.0) got.shape,
  subst (λ (p : Named × ℕ). Ran [] asked (rules_in p.0 setting p.1) (start_in setting) told) got.shape (ran [] asked (rules_in (policy_of c.run) setting c.size) (start_in setting) got.stands),
)

-- ---- a request that was made

abbrev Visited : ℕ → Request → Tiers → Tiers → Type 0
Visited hash asked s t = (v : Visit) × IsVisit hash asked s t v × ((visits : List Visit) → HasHad visits s → HasHad (visits ++ v ∷ []) t)

-- there is no node
pub of-none : (hash : ℕ) (asked : Request) (s t : Tiers) (there : List ℕ) → there ≡ s.there.items → there ≡ []
    → ((own : ℕ → List Request) (behind : List Request) → HasServed own behind s → HasServed own (behind ++ asked ∷ []) t) → Visited hash asked s t
of-none hash asked s t there is none serves =
    let visit : Visit = record { request = asked; node = None; is_behind = true } in (
      visit,
      record { request = refl; node = sym is ∙ none; answered = refl },
      λ visits had. same-served (λ n. at_node n visits) (λ n. at_node n (visits ++ visit ∷ [])) (behind visits ++ asked ∷ []) (behind (visits ++ visit ∷ [])) t
          (λ n. own-same n asked true visits) (behind-more asked None visits) (serves (λ n. at_node n visits) (behind visits) had),
    )

-- a node answered
pub of-answer : (hash : ℕ) (asked : Request) (s t : Tiers) (there : List ℕ) (n : ℕ) (is_hit : Bool) → there ≡ s.there.items → GoesTo hash there n
    → is_hit ≡ nat_lt (hits_at n s.nodes.items) (hits_at n t.nodes.items) → is_hit ≡ true
    → ((own : ℕ → List Request) (behind : List Request) → HasServed own behind s → HasServed (one_more n (asked ∷ []) own) behind t) → Visited hash asked s t
of-answer hash asked s t there n is_hit is goes rose hit serves =
    let visit : Visit = record { request = asked; node = Some n; is_behind = false } in (
      visit,
      record { request = refl; node = subst (λ (xs : List ℕ). GoesTo hash xs n) is goes; answered = sym (ap not (sym rose ∙ hit)) },
      λ visits had. same-served (one_more n (asked ∷ []) (λ k. at_node k visits)) (λ k. at_node k (visits ++ visit ∷ [])) (behind visits) (behind (visits ++ visit ∷ [])) t
          (λ k. own-more n k asked false visits) (behind-same asked (Some n) visits) (serves (λ k. at_node k visits) (behind visits) had),
    )

-- a node did not, and so the shield was asked
pub of-shield : (hash : ℕ) (asked : Request) (s m t : Tiers) (there : List ℕ) (n : ℕ) (is_hit : Bool) → there ≡ s.there.items → GoesTo hash there n
    → is_hit ≡ nat_lt (hits_at n s.nodes.items) (hits_at n m.nodes.items) → is_hit ≡ false → t.nodes ≡ m.nodes
    → ((own : ℕ → List Request) (behind : List Request) → HasServed own behind s → HasServed (one_more n (asked ∷ []) own) behind m)
    → ((own : ℕ → List Request) (behind : List Request) → HasServed own behind m → HasServed own (behind ++ asked ∷ []) t) → Visited hash asked s t
of-shield hash asked s m t there n is_hit is goes rose no_hit nodes serves behind_too =
    let visit : Visit = record { request = asked; node = Some n; is_behind = true } in (
      visit,
      record {
        request = refl;
        node = subst (λ (xs : List ℕ). GoesTo hash xs n) is goes;
        answered = sym (ap not (ap (λ v. nat_lt (hits_at n s.nodes.items) (hits_at n v.items)) nodes ∙ sym rose ∙ no_hit));
      },
      λ visits had. same-served (one_more n (asked ∷ []) (λ k. at_node k visits)) (λ k. at_node k (visits ++ visit ∷ [])) (behind visits ++ asked ∷ []) (behind (visits ++ visit ∷ [])) t
          (λ k. own-more n k asked true visits) (behind-more asked (Some n) visits) (behind_too (one_more n (asked ∷ []) (λ k. at_node k visits)) (behind visits) (serves (λ k. at_node k visits) (behind visits) had)),
    )
