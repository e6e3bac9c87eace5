pub mod SoftExchange
pub mod Rules
