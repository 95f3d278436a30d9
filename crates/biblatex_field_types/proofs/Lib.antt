pub mod ClassesHolding
