-- Rules that are the same.
use Rattle.pcache_evict.specs.Policy.{AllowAsMuch, Rules}

pub same_rules : (r : Rules) → AllowAsMuch r r
same_rules r = record {
  accesses = λ s t k n h. h;
  admits = λ l s t k n out h. h;
  increments = λ l s t k n cap out h. h;
  removes = λ s t k h. h;
}
