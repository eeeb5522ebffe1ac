-- A meta is what it says beside its head, and its head.
use Rattle.pcache_meta.proofs.Words.{◌≡◌, Header, Internal, Meta}

pub meta_made : (x : Internal) (h : Header) (m : Meta) → x ≡ m.internal → h ≡ m.header → ◌≡◌ {A = Meta} (record { internal = x; header = h }) m
meta_made x h m internal header i = record { internal = internal i; header = header i }
