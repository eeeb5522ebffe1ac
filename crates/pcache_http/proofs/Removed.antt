-- What is left of fields after one more directive that may list some.
use Rattle.std.specs.List.{flat_map}
use Rattle.std.proofs.lemmas.Grind.{flat_map-append}
use Rattle.std.proofs.lemmas.List.Sums.{fold-append}
use Rattle.http_header.specs.HeaderMap.{Entries, remove}
use Rattle.pcache_http.specs.StoredFields.{listing_name, HasRemoved}
use Rattle.pcache_http.specs.Storing.{is_shared}
use Rattle.pcache_http.specs.declared.rules.CacheKind.TheVariants.{Shared, Private}
use Rattle.pcache_http.specs.declared.stored_fields.Listing.{Listing}
use Rattle.pcache_http.specs.declared.stored_fields.Listing.TheVariants.{NoCache, Private as PrivateListing}
use Rattle.pcache_http.specs.declared.stored_fields.Removing.{Removing}
use Rattle.pcache_http.proofs.Words.{◌≡◌, ℕ, true, false, List, [], ◌∷◌, ◌++◌, Option, refl, sym, ap, ◌∙◌, append-nil, codes, FieldValue, lowercase, Directive, is_called, values_of, without_names, names_listed, names_under, names_kept_out, CacheKind}
use Rattle.pcache_http.proofs.Heard.{values_of-more, values_of-other}

-- the names of both are in lower case
pub listing_lower : (l : Listing) → lowercase (listing_name l) ≡ listing_name l
listing_lower NoCache = refl
listing_lower PrivateListing = refl

pub without_names-append : (xs ys : List (List ℕ)) (fields : Entries FieldValue) → without_names (xs ++ ys) fields ≡ without_names ys (without_names xs fields)
without_names-append xs ys fields = fold-append (λ left name. remove left (lowercase name)) fields xs ys

names_under-more : (name : List ℕ) (said : List Directive) (d : Directive) → is_called name d ≡ true → names_under name (said ++ d ∷ []) ≡ names_under name said ++ names_listed d.1
names_under-more name said d e =
    ap (flat_map names_listed) (values_of-more name said d e)
    ∙ flat_map-append names_listed (values_of name said) (d.1 ∷ [])
    ∙ ap (λ ns. names_under name said ++ ns) (append-nil (names_listed d.1))

pub removed-one : (start before now : Removing) (said : List Directive) (d : Directive) → is_called (listing_name before.listing) d ≡ true
    → now.headers ≡ without_names (names_listed d.1) before.headers → now.listing ≡ before.listing
    → HasRemoved start said before → HasRemoved start (said ++ d ∷ []) now
removed-one start before now said d e headers listing was =
    let called : is_called (listing_name start.listing) d ≡ true = rw (← was.listing) e in
    record {
      headers =
          headers
          ∙ ap (without_names (names_listed d.1)) was.headers
          ∙ sym (without_names-append (names_under (listing_name start.listing) said) (names_listed d.1) start.headers)
          ∙ ap (λ ns. without_names ns start.headers) (sym (names_under-more (listing_name start.listing) said d called));
      listing = listing ∙ was.listing;
    }

pub removed-other : (start before : Removing) (said : List Directive) (d : Directive) → is_called (listing_name before.listing) d ≡ false
    → HasRemoved start said before → HasRemoved start (said ++ d ∷ []) before
removed-other start before said d e was =
    let called : is_called (listing_name start.listing) d ≡ false = rw (← was.listing) e in
    record {
      headers = was.headers ∙ ap (λ ns. without_names (flat_map names_listed ns) start.headers) (sym (values_of-other (listing_name start.listing) said d called));
      listing = was.listing;
    }

pub kept_out-private : (kind : CacheKind) (said : List Directive) → is_shared kind ≡ false → names_kept_out kind said ≡ names_under (codes "no-cache") said
kept_out-private Shared said e = absurd cc
kept_out-private Private said e = append-nil (names_under (codes "no-cache") said)

pub kept_out-shared : (kind : CacheKind) (said : List Directive) → is_shared kind ≡ true
    → names_kept_out kind said ≡ names_under (codes "no-cache") said ++ names_under (codes "private") said
kept_out-shared Shared said e = refl
kept_out-shared Private said e = absurd cc
