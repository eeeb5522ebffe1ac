-- What holds of a read with every store: it leaves the request with a reader, and its phase; if it fails, as it was, and for memory.
use Rattle.std.specs.FinMap.{empty}
use Rattle.std.specs.Prelude.{IfErr, OnErr, true}
use Rattle.pcache_base.specs.declared.error.ErrorType.TheVariants.{OutOfMemory}
use Rattle.pcache_request.specs.Looking.{Reads}
use Rattle.pcache_store.specs.Store.{reader_after}
use Rattle.pcache_shared_cache.proofs.Words.{◌≡◌, ℕ, List, Option, None, Some, IsSome, option_map, Result, Ok, Err, ErrorType, ap, refl, subst, sym, Poll, Request, Reader, Store}

with_nothing : Store
with_nothing = record { slots = empty; writes = empty; next = 0; newest = true }

pub keeps_all : (result : Result (Poll (Option (List ℕ))) ErrorType) (old new : Request) → ((s : Store) → Reads result old new s) → OnErr result (new ≡ old)
keeps_all result old new reads = (reads with_nothing).same_request

pub lacks_memory : (result : Result (Poll (Option (List ℕ))) ErrorType) (old new : Request) → ((s : Store) → Reads result old new s) → IfErr result (λ e. e ≡ OutOfMemory)
lacks_memory result old new reads = (reads with_nothing).kind

pub keeps_reader : (result : Result (Poll (Option (List ℕ))) ErrorType) (old new : Request) → ((s : Store) → Reads result old new s) → IsSome old.reader → IsSome new.reader
keeps_reader (Ok p) old new reads some = subst (λ (x : Request). IsSome x.reader) (sym (reads with_nothing).request) (stays old.reader some)
  where
    stays : (r : Option Reader) → IsSome r → IsSome (option_map (reader_after with_nothing) r)
    stays None some = some
    stays (Some r) some = refl
keeps_reader (Err e) old new reads some = subst (λ (x : Request). IsSome x.reader) (sym (reads with_nothing).same_request) some

pub keeps_phase : (result : Result (Poll (Option (List ℕ))) ErrorType) (old new : Request) → ((s : Store) → Reads result old new s) → new.phase ≡ old.phase
keeps_phase (Ok p) old new reads = ap (λ (x : Request). x.phase) (reads with_nothing).request
keeps_phase (Err e) old new reads = ap (λ (x : Request). x.phase) (reads with_nothing).same_request
